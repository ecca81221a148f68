use Rattle.typst_candidates.proofs.Cited.{◌≡◌, ◌-◌, ◌≤◌, length, drop, piece_of, start_at}
use Rattle.typst_candidates.proofs.cursor.EntryCursor.piece_from.Given as goal

abbrev pub invariant-loop-entry : goal.invariant-loop-entry
invariant-loop-entry l = record {
  entries : l.place.entries ≡ l.self.entries;
  within : l.inside ≤ l.place.number;
  later : piece_of l.at l.inside (start_at l.place) l.place.number (drop l.place.number l.self.entries) ≡ piece_of l.at 0 (start_at l.self) l.self.number (drop l.self.number l.self.entries);
}

abbrev pub decreases-loop-entry : goal.decreases-loop-entry
decreases-loop-entry l = length l.self.entries - l.place.number
