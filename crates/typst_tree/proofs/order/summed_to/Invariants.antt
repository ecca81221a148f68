use Rattle.typst_tree.specs.Passed.{IsPassed}
use Rattle.typst_tree.proofs.order.summed_to.Given as goal

abbrev pub invariant-loop-i : goal.invariant-loop-i
invariant-loop-i l = IsPassed l.row l.number l.offset l.i l.at l.begin
