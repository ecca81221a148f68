use Rattle.std.proofs.Common.{arith}
use Rattle.typst_fixes.proofs.FixesFound.{past_clean}
use Rattle.typst_fixes.proofs.fixes.Row.past_unmarked.Goals as goal

pub loop-node-preserved : goal.loop-node-preserved
loop-node-preserved c = grind (arith, past_clean)
