use Rattle.typst_protocol.proofs.Cited.{◌≡◌, length, unled}
use Rattle.typst_protocol.proofs.frames.header.unled.Given as goal

abbrev pub invariant-loop-rest : goal.invariant-loop-rest
invariant-loop-rest l = unled l.rest ≡ unled l.value

abbrev pub decreases-loop-rest : goal.decreases-loop-rest
decreases-loop-rest l = length l.rest
