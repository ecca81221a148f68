use Rattle.typst_candidates.proofs.Cited.{◌≡◌, ◌≤◌, length, take, rear_of}
use Rattle.typst_candidates.proofs.records.Records.rear.Given as goal

abbrev pub invariant-entries : goal.invariant-entries
invariant-entries l = record {
  entries : l.place.entries ≡ l.self.units.entries;
  within : l.place.number ≤ length l.self.units.entries;
  later : rear_of l.at 0 0 (take l.place.number l.self.units.entries) l.back ≡ rear_of l.at 0 0 l.self.units.entries l.self.units.back;
}

abbrev pub decreases-entries : goal.decreases-entries
decreases-entries l = l.place.number
