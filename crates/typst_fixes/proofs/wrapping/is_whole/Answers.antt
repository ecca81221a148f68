use Rattle.typst_fixes.proofs.Cited.{rules, ◌≡◌, false, true, Some, ap, sym, ◌∙◌, option_map, standing, within, begins_whole, is_atom, is_called, is_whole}
use Rattle.typst_fixes.proofs.WayToByte.{goes_on, way}
use Rattle.typst_fixes.proofs.WholeCode.{here, further}
use Rattle.typst_fixes.proofs.wrapping.is_whole.Goals as goal

pub returns-then-not-is_called : goal.returns-then-not-is_called
returns-then-not-is_called c =
    let first = c.args.code.start in
    let n = standing c.in-Some.placed in
    let is : c.loop-within.within ≡ Some c.in-Some.placed = search rules in
    let there : begins_whole (way first (Some n)) ≡ is_whole (standing c.args.code) = ap (λ w. begins_whole (way first (option_map standing w))) (sym is) ∙ c.loop-within.invariant in
    let called = sym c.is_called.ensures ∙ c.if-not-is_called.true in
    c.is_atom.ensures ∙ ap is_atom c.kind-then-not-is_called.ensures ∙ sym (here n (within first n) c.children.result.now c.kind.result c.children.ensures c.kind.ensures called) ∙ there

pub loop-within-preserved : goal.loop-within-preserved
loop-within-preserved c =
    let first = c.args.code.start in
    let n = standing c.in-Some.placed in
    let is : c.loop-within.within ≡ Some c.in-Some.placed = search rules in
    let there : begins_whole (way first (Some n)) ≡ is_whole (standing c.args.code) = ap (λ w. begins_whole (way first (option_map standing w))) (sym is) ∙ c.loop-within.invariant in
    ap begins_whole (goes_on first n (option_map standing c.child_at-within.result) c.child_at-within.ensures.kid)
    ∙ sym (further n (within first n) c.children.result.now c.kind.result c.children.ensures c.kind.ensures (sym c.is_called.ensures ∙ c.if-not-is_called.false))
    ∙ there
