use Rattle.typst_report.proofs.Cited.{◌≡◌, ◌++◌, drop, map, as_placed, lines}
use Rattle.typst_report.proofs.ndjson.lines_of.Given as goal

abbrev pub invariant-loop-one : goal.invariant-loop-one
invariant-loop-one l = l.printed.items ++ lines l.name (map as_placed (drop l.one-index l.located)) ≡ lines l.name (map as_placed l.located)
