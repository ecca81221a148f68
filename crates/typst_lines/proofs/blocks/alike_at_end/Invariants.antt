use Rattle.std.proofs.Common.{◌≡◌, ◌≤◌, ◌-◌, drop, length}
use Rattle.typst_lines.proofs.blocks.alike_at_end.Given as goal

abbrev pub invariant-loop-count : goal.invariant-loop-count
invariant-loop-count l = record { within : l.count ≤ l.shorter; same : drop (length l.first - l.count) l.first ≡ drop (length l.second - l.count) l.second }

abbrev pub decreases-loop-count : goal.decreases-loop-count
decreases-loop-count l = l.shorter - l.count
