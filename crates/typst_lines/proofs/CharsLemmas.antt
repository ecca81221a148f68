-- One step of an iterator over the characters of a text.
use Rattle.typst_lines.proofs.Cited.{◌≡◌, ℕ, Option, Some, None, List, [], ◌∷◌, refl, sym, ap, YieldsList}

-- an iterator that gives a list and gave an item: the item heads the list, and the rest is left
pub after_first : {S : Type 0} {steps : S → Option ℕ → S → Type 0} {s : S} (all : List ℕ) (t : S) (c : ℕ) → YieldsList steps (λ x. x) s all → steps s (Some c) t
    → (rest : List ℕ) × (all ≡ c ∷ rest) × YieldsList steps (λ x. x) t rest
after_first [] t c e n = absurd (e.runs c t n)
after_first (y ∷ ys) t c e n = let h = e.runs.1 c t n in (ys, ap (λ v. v ∷ ys) (sym h.0), record { runs = h.1 })

-- an iterator that gives a list and gave nothing: the list is empty
pub after_last : {S : Type 0} {steps : S → Option ℕ → S → Type 0} {s : S} (all : List ℕ) (t : S) → YieldsList steps (λ x. x) s all → steps s None t → all ≡ []
after_last [] t e n = refl
after_last (y ∷ ys) t e n = absurd (e.runs.0 t n)
