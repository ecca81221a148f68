use Rattle.typst_styles.proofs.Cited.{◌-◌, ap, ◌∙◌, Outside}
use Rattle.typst_styles.proofs.RenewedTokens.{outside}
use Rattle.typst_styles.proofs.renewed.tokens_outside.Goals as goal

pub returns : goal.returns
returns c =
    let counts : Outside = record { front = c.count_before-front.result; back = c.saturating_sub-back.result } in
    outside c.args.text.now c.args.window.now c.args.was.now c.args.was_len c.saturating_sub-from.result c.count_before-before.result counts
    (c.saturating_sub-from.ensures ∙ ap (λ n. c.args.was_len - n) c.saturating_sub-rest.ensures) c.count_before-front.ensures.within c.count_before-front.ensures.parts c.count_before-before.ensures.parts (c.saturating_sub-back.ensures ∙ ap (λ n. n - c.count_before-before.result) c.len.ensures)
