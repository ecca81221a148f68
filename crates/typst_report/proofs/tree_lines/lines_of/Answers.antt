use Rattle.std.proofs.Common.{arith}
use Rattle.typst_report.proofs.VisitLemmas.{lines_walk}
use Rattle.typst_report.proofs.tree_lines.lines_of.Goals as goal

pub loop-walk-init : goal.loop-walk-init
loop-walk-init c = grind (arith, lines_walk)
