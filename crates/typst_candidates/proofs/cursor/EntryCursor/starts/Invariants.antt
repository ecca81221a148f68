use Rattle.typst_candidates.proofs.Cited.{◌≡◌, ◌-◌, ◌≤◌, ◌++◌, length, drop, pieces_of, start_at, within}
use Rattle.typst_candidates.proofs.cursor.EntryCursor.starts.Given as goal

abbrev pub invariant-loop-entry : goal.invariant-loop-entry
invariant-loop-entry l = record {
  entries : l.place.entries ≡ l.self.entries;
  few : l.inside ≤ l.place.number;
  later : l.starts.items ++ within l.window (pieces_of l.inside (start_at l.place) (drop l.place.number l.self.entries)) ≡ within l.window (pieces_of 0 (start_at l.self) (drop l.self.number l.self.entries));
}

abbrev pub decreases-loop-entry : goal.decreases-loop-entry
decreases-loop-entry l = length l.self.entries - l.place.number
