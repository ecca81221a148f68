use Rattle.typst_report.proofs.Cited.{◌≡◌, ◌++◌, drop, line_table, rows}
use Rattle.std.specs.String.{string_bytes}
use Rattle.typst_report.proofs.lines.answer.Given as goal

abbrev pub invariant-loop-number : goal.invariant-loop-number
invariant-loop-number l =
    string_bytes l.printed ++ rows l.number (drop l.number (line_table l.text)) ≡ rows 0 (line_table l.text)
