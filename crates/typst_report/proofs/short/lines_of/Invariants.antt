use Rattle.typst_report.proofs.Cited.{◌≡◌, ◌++◌, drop, map, string_bytes, as_placed, short_lines}
use Rattle.typst_report.proofs.short.lines_of.Given as goal

abbrev pub invariant-loop-one : goal.invariant-loop-one
invariant-loop-one l = string_bytes l.printed ++ short_lines l.color l.name (map as_placed (drop l.one-index l.located)) ≡ short_lines l.color l.name (map as_placed l.located)
