use Rattle.std.proofs.Common.{arith}
use Rattle.typst_fixes.proofs.FixesFound.{left_pushed, steps_pushed}
use Rattle.typst_fixes.proofs.fixes.quick_fixes.Goals as goal

pub loop-row-preserved : goal.loop-row-preserved
loop-row-preserved c = grind (arith, left_pushed)

pub loop-row-smaller : goal.loop-row-smaller
loop-row-smaller c = grind (arith, steps_pushed)
