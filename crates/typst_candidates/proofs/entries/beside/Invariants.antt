use Rattle.typst_candidates.proofs.Cited.{◌≡◌, ◌≤◌, ◌-◌, length, take, wides}
use Rattle.typst_candidates.proofs.entries.beside.Given as goal

abbrev pub invariant-loop-from : goal.invariant-loop-from
invariant-loop-from l = record { within : l.from ≤ length l.words; count : l.count ≡ wides (take l.from l.words) }

abbrev pub decreases-loop-from : goal.decreases-loop-from
decreases-loop-from l = length l.words - l.from
