-- What is kept of how many entries stand beside words.
use Rattle.typst_candidates.proofs.Cited.{◌≡◌, ℕ, ◌≤◌, List, [], ◌∷◌, ◌++◌, length, take, ap, sym, ◌∙◌, arith, Packed, wides}
use Rattle.std.proofs.lemmas.List.{length-append, take-append-le, take-take}
use Rattle.typst_candidates.specs.declared.entries.Tally.{Tally}
use Rattle.typst_candidates.specs.Tallies.{IsTally}

pub fewer : {A : Type 0} (i m : ℕ) (us : List A) → i ≤ m → take i us ≡ take i (take m us)
fewer i m us h = sym (take-take i m us h)

pub tally-upto : (n : ℕ) (ps qs : List Packed) (m : Tally) → IsTally ps m → m.number ≤ n → take n qs ≡ take n ps → n ≤ length qs → IsTally qs m
tally-upto n ps qs m h le same long =
    let few : take m.number ps ≡ take m.number qs = fewer m.number n ps le ∙ ap (take m.number) (sym same) ∙ sym (fewer m.number n qs le) in
    record { within = omega (arith, le, long); passed = h.passed ∙ ap wides few }

pub tally-append : (ps : List Packed) (p : Packed) (m : Tally) → IsTally ps m → IsTally (ps ++ p ∷ []) m
tally-append ps p m h = grind (arith, tally-upto, take-append-le, length-append)
