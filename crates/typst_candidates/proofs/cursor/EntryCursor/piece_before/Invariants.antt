use Rattle.typst_candidates.proofs.Cited.{◌≡◌, ◌+◌, ◌^◌, ◌<◌, last_piece}
use Rattle.typst_candidates.proofs.cursor.EntryCursor.piece_before.Given as goal

abbrev pub invariant-loop-entry : goal.invariant-loop-entry
invariant-loop-entry l = record {
  entries : l.place.entries ≡ l.self.entries;
  within : l.inside + l.place.number < 2 ^ 64;
  later : last_piece l.inside l.self.entries l.place.number ≡ last_piece 0 l.self.entries l.self.number;
}

abbrev pub decreases-loop-entry : goal.decreases-loop-entry
decreases-loop-entry l = l.place.number
