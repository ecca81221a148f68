use Rattle.typst_tree.proofs.Cited.{common_steps, sym, ◌∙◌, arith, visited, left, left_above}
use Rattle.typst_tree.proofs.LeftRows.{passed_unmarked}
use Rattle.typst_tree.proofs.preorder.Preorder.pass_unmarked.Goals as goal

pub loop-visit-preserved : goal.loop-visit-preserved
loop-visit-preserved c =
    let here = left c.loop-visit.self-inside.here in
    let behind = left c.in-Some.behind in
    let above = left_above c.loop-visit.self-inside.above.items in
    let passed = passed_unmarked (visited c.in-Some.visit) here behind above c.in-Some.ensures (sym c.has_diagnostics.ensures ∙ c.if-has_diagnostics.false) in
    grind (arith, common_steps)
