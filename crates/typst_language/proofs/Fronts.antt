-- What the characters ahead begin with.
use Rattle.typst_language.proofs.Cited.{List, ℕ, ◌≡◌, ◌∙◌, sym, ap, refl, length, take, drop, take_at, take-append-drop}

own : (n : ℕ) (xs : List ℕ) → take (length (take n xs)) xs ≡ take n xs
own n xs = ap (take (length (take n xs))) (sym (take-append-drop n xs)) ∙ take_at (take n xs) (drop n xs) (length (take n xs)) refl

-- the characters that were taken of those ahead begin them
pub begins : (n : ℕ) (ahead taken rest : List ℕ) → taken ≡ take n ahead → rest ≡ ahead → take (length taken) rest ≡ taken
begins n ahead taken rest e f = ap (take (length taken)) f ∙ ap (λ xs. take (length xs) ahead) e ∙ own n ahead ∙ sym e
