use Rattle.std.proofs.Common.{◌≡◌, ◌++◌, [], drop, map}
use Rattle.typst_report.specs.Names.{end_of_names, names_from, names_in}
use Rattle.typst_report.proofs.names.names_in.Given as goal

abbrev pub invariant-loop-byte : goal.invariant-loop-byte
invariant-loop-byte l = map (λ name. name.items) l.names.items ++ names_from l.end l.name.items (drop l.byte-index l.list) ≡ names_from l.end [] l.list
