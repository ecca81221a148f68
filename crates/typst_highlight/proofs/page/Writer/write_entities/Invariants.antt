use Rattle.typst_highlight.proofs.Cited.{◌≡◌, ◌≤◌, ◌++◌, drop, slice_range, escaped, IsCharBoundary}
use Rattle.typst_highlight.proofs.page.Writer.write_entities.Given as goal

abbrev pub invariant-loop-at : goal.invariant-loop-at
invariant-loop-at l = record {
  written : l.self ++ escaped (drop l.done l.text) ≡ l.fn.self ++ escaped l.text;
  plain : escaped (slice_range l.text l.done l.at) ≡ slice_range l.text l.done l.at;
  before : l.done ≤ l.at;
  boundary : IsCharBoundary l.text l.done;
}
