use Rattle.typst_protocol.proofs.Cited.{◌≡◌, ◌+◌, drop, false, sym, ap, ◌∙◌, take_rest, begins_low, is_lone}
use Rattle.typst_protocol.proofs.Mending.{stays}
use Rattle.typst_protocol.proofs.escapes.mend_unit.Goals as goal

pub returns-else-is_lone : goal.returns-else-is_lone
returns-else-is_lone c =
    let body = c.args.body.now in
    let at = c.args.at in
    let lone = is_lone c.args.is_behind_high c.args.unit in
    let none : lone (begins_low (drop (at + 6) body)) ≡ false =
    ap (λ t. lone (begins_low t)) (sym (take_rest body (at + 6))) ∙ ap lone (sym c.begins_low.ensures) ∙ sym c.is_lone.ensures ∙ c.if-is_lone.false in
    stays body at (lone (begins_low (drop (at + 6) body))) none
