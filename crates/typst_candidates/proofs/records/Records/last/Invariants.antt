use Rattle.typst_candidates.proofs.Cited.{◌≡◌, ◌-◌, drop, length, end_of}
use Rattle.typst_candidates.proofs.records.Records.last.Given as goal

abbrev pub invariant-loop-entry : goal.invariant-loop-entry
invariant-loop-entry l = record {
  entries : l.place.entries ≡ l.self.units.entries;
  later : end_of l.at (drop l.place.number l.self.units.entries) ≡ end_of 0 l.self.units.entries;
}

abbrev pub decreases-loop-entry : goal.decreases-loop-entry
decreases-loop-entry l = length l.self.units.entries - l.place.number
