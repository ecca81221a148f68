use Rattle.typst_report.proofs.Cited.{◌≡◌, ◌++◌, drop, map, string_bytes, as_placed, commands}
use Rattle.typst_report.proofs.github.commands_of.Given as goal

abbrev pub invariant-loop-one : goal.invariant-loop-one
invariant-loop-one l = string_bytes l.printed ++ commands l.name (map as_placed (drop l.one-index l.located)) ≡ commands l.name (map as_placed l.located)
