use Rattle.typst_highlight.proofs.Cited.{◌≡◌, slice_range, escaped}
use Rattle.typst_highlight.proofs.entities.are_unmarked.Given as goal

abbrev pub invariant-loop-at : goal.invariant-loop-at
invariant-loop-at l = l.marks ≡ 0 → escaped (slice_range l.bytes 0 l.at) ≡ slice_range l.bytes 0 l.at
