use Rattle.typst_names.proofs.Cited.{◌≡◌, drop, name_at}
use Rattle.typst_names.proofs.NamesAt.{among}
use Rattle.typst_names.proofs.bindings.name_at.Given as goal

abbrev pub invariant-loop-index : goal.invariant-loop-index
invariant-loop-index l = among l.byte l.index (drop l.index l.names) l.ending ≡ name_at l.names l.byte
