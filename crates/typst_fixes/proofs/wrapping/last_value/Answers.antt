use Rattle.typst_fixes.proofs.Cited.{rules, ◌≡◌, true, false, Option, Some, ap, sym, ◌∙◌, option_map, standing, within, first_whole, is_whole, last_value}
use Rattle.typst_fixes.proofs.WayToByte.{goes_on, way}
use Rattle.typst_fixes.proofs.WholeCode.{within_it}
use Rattle.typst_fixes.proofs.wrapping.last_value.Goals as goal

pub loop-within-preserved : goal.loop-within-preserved
loop-within-preserved c =
    let last = c.saturating_sub-last.result in
    let n = standing c.in-Some.code in
    let is : c.loop-within.within ≡ Some c.in-Some.code = search rules in
    let there : first_whole (way last (Some n)) ≡ last_value (standing c.args.statement) = ap (λ w. first_whole (way last (option_map standing w))) (sym is) ∙ c.loop-within.invariant in
    ap first_whole (goes_on last n (option_map standing c.child_at-within.result) c.child_at-within.ensures.kid)
    ∙ sym (within_it n (within last n) (sym c.is_whole.ensures ∙ c.if-is_whole.false) (sym c.ends_with_value.ensures ∙ c.if-not-ends_with_value.false))
    ∙ there
