use Rattle.typst_candidates.proofs.Cited.{◌≡◌, ◌%◌, ◌^◌, take, lengths}
use Rattle.typst_candidates.proofs.entries.lengths.Given as goal

abbrev pub invariant-loop-entry : goal.invariant-loop-entry
invariant-loop-entry l = l.sum ≡ lengths (take l.entry-index l.entries) % 2 ^ 64
