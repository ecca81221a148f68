use Rattle.typst_styles.proofs.Cited.{◌≡◌, ap, subst, sym, ◌∙◌, roles, AreOrdered, all_tokens, merged, touching, joined_root}
use Rattle.typst_highlight.specs.Stretches as tagged
use Rattle.typst_styles.proofs.TokenOrder.{merged-ordered, stretches-ordered, touching-ordered}
use Rattle.typst_styles.proofs.tokens.semantic_tokens.Goals as goal
use Rattle.std.proofs.lemmas.Result.{IfOk-weaker}

pub returns-clause-ordered : goal.returns-clause-ordered
returns-clause-ordered c =
    let range = c.args.within.now in
    let text = c.args.text.now in
    let root = c.args.root.now in
    let same : touching range c.as_slice.result.now ≡ touching range (all_tokens text root) = ap (touching range) c.as_slice.ensures.value ∙ c.in_ok-tokens.ensures in
    let ordered : AreOrdered 0 (all_tokens text root) = stretches-ordered text 0 _ (tagged.stretches root) (roles root) (joined_root root) in
    IfOk-weaker c.merge.result _ _ (λ tokens is. subst (AreOrdered 0) (sym (is ∙ ap merged same)) (merged-ordered 0 _ (touching-ordered range 0 _ ordered))) c.merge.ensures
