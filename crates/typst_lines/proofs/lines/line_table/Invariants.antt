use Rattle.typst_lines.proofs.Cited.{◌≡◌, ◌++◌, line_table, lines_left}
use Rattle.typst_lines.proofs.lines.line_table.Given as goal

abbrev pub invariant-loop-line : goal.invariant-loop-line
invariant-loop-line l = l.lines.items ++ lines_left l.line-iterator ≡ line_table l.text
