use Rattle.std.proofs.Common.{◌≡◌, ◌-◌, ◌≤◌, length}
use Rattle.typst_candidates.proofs.records.go_after.Given as goal

abbrev pub invariant-entries : goal.invariant-entries
invariant-entries l = record {
  entries : l.place.entries ≡ l.initial.place.entries;
  on : l.initial.place.number ≤ l.place.number;
  within : l.place.number ≤ length l.place.entries;
}

abbrev pub decreases-entries : goal.decreases-entries
decreases-entries l = length l.place.entries - l.place.number
