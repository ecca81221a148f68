use Rattle.typst_candidates.proofs.Cited.{◌≡◌, ◌-◌, ◌≤◌, length, drop, piece_of, start_at}
use Rattle.typst_candidates.proofs.run.pass_other_pieces.Given as goal

abbrev pub invariant-loop-place : goal.invariant-loop-place
invariant-loop-place l = record {
  entries : l.place.entries ≡ l.initial.place.entries;
  on : l.initial.place.number ≤ l.place.number;
  piece : piece_of l.at l.inside (start_at l.place) l.place.number (drop l.place.number l.place.entries)
      ≡ piece_of l.at l.inside (start_at l.initial.place) l.initial.place.number (drop l.initial.place.number l.initial.place.entries);
}

abbrev pub decreases-loop-place : goal.decreases-loop-place
decreases-loop-place l = length l.place.entries - l.place.number
