use Rattle.typst_highlight.proofs.Cited.{◌≡◌, ◌+◌, ◌++◌, take, slice_range, escaped}
use Rattle.typst_highlight.proofs.page.put_few.Given as goal

abbrev pub invariant-loop-index : goal.invariant-loop-index
invariant-loop-index l = record {
  kept : take l.at l.page ≡ take l.at l.fn.page;
  written : take (l.at + l.index) l.page ≡ take l.at l.fn.page ++ take l.index l.bytes;
  plain : escaped (slice_range l.bytes 0 l.index) ≡ slice_range l.bytes 0 l.index;
}
