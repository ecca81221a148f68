use Rattle.std.proofs.Common.{◌≡◌, ◌≤◌, ◌-◌, take}
use Rattle.typst_lines.proofs.blocks.alike_at_front.Given as goal

abbrev pub invariant-loop-at : goal.invariant-loop-at
invariant-loop-at l = record { within : l.at ≤ l.shorter; same : take l.at l.first ≡ take l.at l.second }

abbrev pub decreases-loop-at : goal.decreases-loop-at
decreases-loop-at l = l.shorter - l.at
