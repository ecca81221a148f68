use Rattle.typst_protocol.proofs.Cited.{◌≡◌, drop, items_view}
use Rattle.typst_protocol.specs.Parameters as spec
use Rattle.typst_protocol.proofs.params.any_covers.Given as goal

-- no kind before this one covers quick fixes
abbrev pub invariant-loop-kind : goal.invariant-loop-kind
invariant-loop-kind l = spec.any_covers (items_view l.kinds) ≡ spec.any_covers (items_view (drop l.kind-index l.kinds))
