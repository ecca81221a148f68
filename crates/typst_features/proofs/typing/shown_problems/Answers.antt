use Rattle.std.proofs.Common.{arith, append-nil}
use Rattle.typst_features.proofs.ShownProblems.{from_start, left_pushed, steps_pushed}
use Rattle.typst_features.proofs.typing.shown_problems.Goals as goal

pub loop-row-init : goal.loop-row-init
loop-row-init c = grind (arith, append-nil, from_start)

pub loop-row-preserved : goal.loop-row-preserved
loop-row-preserved c = grind (arith, left_pushed)

pub loop-row-smaller : goal.loop-row-smaller
loop-row-smaller c = grind (arith, steps_pushed)
