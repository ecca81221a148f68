use Rattle.std.proofs.Common.{◌-◌, length}
use Rattle.typst_protocol.proofs.Mending.{Mends}
use Rattle.typst_protocol.proofs.escapes.mend.Given as goal

abbrev pub invariant-loop-at : goal.invariant-loop-at
invariant-loop-at l = Mends l.fn.body l.body l.at l.is_behind_high

abbrev pub decreases-loop-at : goal.decreases-loop-at
decreases-loop-at l = length l.body - l.at
