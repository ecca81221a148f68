use Rattle.typst_candidates.proofs.Cited.{◌≡◌, ◌-◌, length, drop, pieces_in, start_at}
use Rattle.typst_candidates.proofs.records.Records.run_in.Given as goal

abbrev pub invariant-loop-entry : goal.invariant-loop-entry
invariant-loop-entry l = record {
  entries : l.place.entries ≡ l.self.units.entries;
  later : pieces_in l.at (start_at l.place) (drop l.place.number l.self.units.entries) ≡ pieces_in l.at 0 l.self.units.entries;
}

abbrev pub decreases-loop-entry : goal.decreases-loop-entry
decreases-loop-entry l = length l.self.units.entries - l.place.number
