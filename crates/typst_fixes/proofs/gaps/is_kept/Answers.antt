use Rattle.typst_fixes.proofs.Cited.{rules, ◌≡◌, ◌-◌, ◌||◌, Bool, false, Some, ap, sym, ◌∙◌, arith, list_any, option_map, standing, is_kept, keeps, within}
use Rattle.typst_fixes.proofs.WayToByte.{goes_on, way}
use Rattle.typst_fixes.proofs.gaps.is_kept.Goals as goal

pub loop-within-init : goal.loop-within-init
loop-within-init c =
    let n = standing c.args.node in
    let k = keeps c.args.closer.now c.args.byte in
    let is : c.saturating_sub-last.result ≡ c.args.byte - 1 = omega (arith, c.saturating_sub-last.ensures) in
    ap (list_any k) (goes_on _ n (option_map standing c.child_at-within.result) c.child_at-within.ensures.kid)
    ∙ ap (λ b. list_any k (within b n)) is

pub loop-within-preserved : goal.loop-within-preserved
loop-within-preserved c =
    let n = standing c.in-Some.placed in
    let closer = c.args.closer.now in
    let k = keeps closer c.args.byte in
    let last = c.saturating_sub-last.result in
    let is : c.loop-within.within ≡ Some c.in-Some.placed = search rules in
    let there : list_any k (way last (Some n)) ≡ is_kept closer c.args.byte (standing c.args.node) = ap (λ w. list_any k (way last (option_map standing w))) (sym is) ∙ c.loop-within.invariant in
    let no : k n ≡ false = sym c.keeps.ensures ∙ c.if-keeps.false in
    ap (list_any k) (goes_on last n (option_map standing c.child_at-within-in-Some.result) c.child_at-within-in-Some.ensures.kid)
    ∙ sym (ap (λ (v : Bool). v || list_any k (within last n)) no)
    ∙ there
