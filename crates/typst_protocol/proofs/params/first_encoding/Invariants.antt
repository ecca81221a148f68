use Rattle.typst_protocol.proofs.Cited.{◌≡◌, drop, items_view}
use Rattle.typst_protocol.specs.Parameters as spec
use Rattle.typst_protocol.proofs.params.first_encoding.Given as goal

-- no name before this one names an encoding
abbrev pub invariant-loop-name : goal.invariant-loop-name
invariant-loop-name l = spec.first_encoding (items_view l.names) ≡ spec.first_encoding (items_view (drop l.name-index l.names))
