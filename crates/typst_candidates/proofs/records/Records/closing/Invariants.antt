use Rattle.typst_candidates.proofs.Cited.{◌≡◌, ◌-◌, ◌≤◌, length, drop, closing_of}
use Rattle.typst_candidates.proofs.records.Records.closing.Given as goal

abbrev pub invariant-loop-entry : goal.invariant-loop-entry
invariant-loop-entry l = record {
  entries : l.place.entries ≡ l.self.units.entries;
  within : l.inside ≤ l.place.number;
  later : closing_of l.inside l.place.number (drop l.place.number l.self.units.entries) ≡ closing_of 0 l.from (drop l.from l.self.units.entries);
}

abbrev pub decreases-loop-entry : goal.decreases-loop-entry
decreases-loop-entry l = length l.self.units.entries - l.place.number
