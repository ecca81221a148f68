use Rattle.typst_candidates.proofs.Cited.{◌≡◌, ◌≤◌, ◌-◌, ◌%◌, ◌^◌, length, take, spans}
use Rattle.typst_candidates.proofs.entries.spans.Given as goal

abbrev pub invariant-loop-from : goal.invariant-loop-from
invariant-loop-from l = record { within : l.from ≤ length l.words; sum : l.sum ≡ spans (take l.from l.words) % 2 ^ 64 }

abbrev pub decreases-loop-from : goal.decreases-loop-from
decreases-loop-from l = length l.words - l.from
