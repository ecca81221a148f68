use Rattle.typst_candidates.proofs.Cited.{◌≡◌, ◌-◌, ◌≤◌, length, drop, first_piece}
use Rattle.typst_candidates.proofs.cursor.EntryCursor.piece_after.Given as goal

abbrev pub invariant-loop-entry : goal.invariant-loop-entry
invariant-loop-entry l = record {
  entries : l.place.entries ≡ l.self.entries;
  within : l.inside ≤ l.place.number;
  later : first_piece l.inside l.place.number (drop l.place.number l.self.entries) ≡ first_piece 0 l.self.number (drop l.self.number l.self.entries);
}

abbrev pub decreases-loop-entry : goal.decreases-loop-entry
decreases-loop-entry l = length l.self.entries - l.place.number
