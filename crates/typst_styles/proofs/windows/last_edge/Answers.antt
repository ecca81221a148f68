use Rattle.std.proofs.Common.{◌-◌, arith}
use Rattle.typst_styles.proofs.WindowEdges.{begins_one, bytes_with}
use Rattle.typst_styles.proofs.windows.last_edge.Goals as goal

pub loop-back-preserved : goal.loop-back-preserved
loop-back-preserved c = grind (arith, bytes_with)

pub returns-then-is_edge : goal.returns-then-is_edge
returns-then-is_edge c = grind (arith, bytes_with, begins_one)
