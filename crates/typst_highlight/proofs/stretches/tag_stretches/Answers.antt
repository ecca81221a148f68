use Rattle.typst_highlight.proofs.Cited.{ap, sym, subst, ◌∙◌, None, length, refl, saturated, text_of, AreJoined}
use Rattle.typst_highlight.proofs.Outlets.{tagger_root, joined_root}
use Rattle.typst_highlight.proofs.stretches.tag_stretches.Goals as goal

pub returns-clause-stretches : goal.returns-clause-stretches
returns-clause-stretches c =
    ap (λ t. t.stretches) c.tagger.view_is
    ∙ tagger_root c.args.root.now (record { stretches = c.new.result.items; end = 0; around = None }) _ c.new.ensures.items refl refl c.in_ok-give_tree.ensures

pub returns-clause-joined : goal.returns-clause-joined
returns-clause-joined c =
    let same =
    ap (λ t. t.stretches) c.tagger.view_is
    ∙ tagger_root c.args.root.now (record { stretches = c.new.result.items; end = 0; around = None }) _ c.new.ensures.items refl refl c.in_ok-give_tree.ensures in
    subst (λ ts. AreJoined 0 ts (saturated (length (text_of c.args.root.now)))) (sym same) (joined_root c.args.root.now)
