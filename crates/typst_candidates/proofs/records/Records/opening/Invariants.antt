use Rattle.typst_candidates.proofs.Cited.{◌≡◌, ◌-◌, ◌≤◌, drop, length, opening_of}
use Rattle.typst_candidates.proofs.records.Records.opening.Given as goal

abbrev pub invariant-entries : goal.invariant-entries
invariant-entries l = record {
  entries : l.place.entries ≡ l.self.units.entries;
  within : l.left ≤ l.at;
  later : opening_of l.at (l.at - l.left) l.place.number (drop l.place.number l.self.units.entries) ≡ opening_of l.at 0 0 l.self.units.entries;
}

abbrev pub decreases-entries : goal.decreases-entries
decreases-entries l = length l.self.units.entries - l.place.number
