use Rattle.typst_candidates.proofs.Cited.{◌≡◌, ℕ, ◌-◌, ◌≤◌, length, drop, closing_of}
use Rattle.typst_candidates.proofs.run.pass_pieces.Given as goal

abbrev pub invariant-loop : goal.invariant-loop
invariant-loop l = record {
  entries : l.place.entries ≡ l.initial.place.entries;
  on : l.initial.place.number ≤ l.place.number;
  closing : (inside : ℕ) → closing_of inside l.place.number (drop l.place.number l.place.entries) ≡ closing_of inside l.initial.place.number (drop l.initial.place.number l.initial.place.entries);
}

abbrev pub decreases-loop : goal.decreases-loop
decreases-loop l = length l.place.entries - l.place.number
