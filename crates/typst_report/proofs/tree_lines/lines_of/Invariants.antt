use Rattle.typst_report.proofs.Cited.{◌≡◌, ◌++◌, length, tree_lines}
use Rattle.typst_report.proofs.VisitLemmas.{each, line_at}
use Rattle.typst_report.proofs.tree_lines.lines_of.Given as goal

abbrev pub decreases-loop-walk : goal.decreases-loop-walk
decreases-loop-walk l = length l.walk

abbrev pub invariant-loop-walk : goal.invariant-loop-walk
invariant-loop-walk l = l.lines.items ++ each line_at l.walk ≡ tree_lines l.root
