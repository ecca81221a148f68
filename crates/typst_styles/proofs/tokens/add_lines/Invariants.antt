use Rattle.typst_styles.proofs.Cited.{◌≡◌, ◌++◌, ◌-◌, ◌≤◌, max, lines, stretch, slice_range, Some}
use Rattle.typst_styles.proofs.tokens.add_lines.Given as goal

abbrev pub invariant-loop-at : goal.invariant-loop-at
invariant-loop-at l = record {
  added : l.tokens.items ++ lines l.style l.start (l.at - l.start) (slice_range l.text l.at l.range.end) ≡ l.fn.tokens.items ++ stretch l.text l.range.start l.range.end (Some l.style);
  ordered : l.start ≤ l.at;
  begun : l.range.start ≤ l.start;
  within : l.at ≤ max l.range.start l.end;
}
