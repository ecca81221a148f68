use Rattle.typst_language.proofs.Cited.{◌≡◌, ℕ, suc, ◌-◌, Bool, true, ◌&&◌, length, get_or, ap, sym, ◌∙◌, arith, is_sign}
use Rattle.typst_language.proofs.LastNodes.{parens-ends}
use Rattle.typst_language.proofs.change.in_parens.Goals as goal

pub returns-then-is_sign : goal.returns-then-is_sign
returns-then-is_sign c =
    let ns = c.args.nodes.now in
    let first = c.index-nodes-0.result in
    let last = c.index-nodes-nodes.result in
    let i : ℕ = length ns - 2 in
    let place : length ns - 1 ≡ suc i = omega arith in
    let opens : is_sign 40 (get_or ns 0 first) ≡ true = ap (is_sign 40) (sym c.index-nodes-0.is) ∙ sym c.is_sign.ensures ∙ c.if-is_sign.true in
    let closes : is_sign 41 (get_or ns (suc i) last) ≡ c.is_sign-then-is_sign.result = ap (λ n. is_sign 41 (get_or ns n last)) (sym place) ∙ ap (is_sign 41) (sym c.index-nodes-nodes.is) ∙ sym c.is_sign-then-is_sign.ensures in
    sym (parens-ends ns i first last (omega arith) ∙ ap (λ (b : Bool). b && is_sign 41 (get_or ns (suc i) last)) opens ∙ closes)
