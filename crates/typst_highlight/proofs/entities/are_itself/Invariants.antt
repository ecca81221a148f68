use Rattle.typst_highlight.proofs.Cited.{◌≡◌, slice_range, escaped}
use Rattle.typst_highlight.proofs.entities.are_itself.Given as goal

abbrev pub invariant-loop-at : goal.invariant-loop-at
invariant-loop-at l = escaped (slice_range l.bytes 0 l.at) ≡ slice_range l.bytes 0 l.at
