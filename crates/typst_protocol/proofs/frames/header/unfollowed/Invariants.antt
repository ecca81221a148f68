use Rattle.typst_protocol.proofs.Cited.{◌≡◌, length, reverse, unled}
use Rattle.typst_protocol.proofs.frames.header.unfollowed.Given as goal

abbrev pub invariant-loop-rest : goal.invariant-loop-rest
invariant-loop-rest l = unled (reverse l.rest) ≡ unled (reverse l.value)

abbrev pub decreases-loop-rest : goal.decreases-loop-rest
decreases-loop-rest l = length l.rest
