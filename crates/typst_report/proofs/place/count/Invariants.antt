use Rattle.typst_report.proofs.Cited.{◌≡◌, ◌+◌, length, drop, chars, units}
use Rattle.typst_report.proofs.place.count.Given as goal

abbrev pub invariant-loop-c : goal.invariant-loop-c
invariant-loop-c l = record {
  characters : l.characters ≡ length l.yielded;
  units : l.units + units (drop (length l.yielded) (chars l.text)) ≡ units (chars l.text);
}
