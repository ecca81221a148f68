-- The lines of one more finding.
use Rattle.typst_report.proofs.Cited.{◌≡◌, ℕ, ◌+◌, ◌<◌, List, ◌∷◌, ◌++◌, length, get_or, drop, ap, sym, ◌∙◌, append_assoc, at_drop_more, Located}

-- after what stands before, the lines of one element and then of those after it are those of all
pub lines_more : (lines : List Located → List ℕ) (line : Located → List ℕ) (xs : List Located) (i : ℕ) (x : Located) (before after all : List ℕ) → ((y : Located) (ys : List Located) → lines (y ∷ ys) ≡ line y ++ lines ys)
    → i < length xs → x ≡ get_or xs i x → after ≡ before ++ line x → before ++ lines (drop i xs) ≡ all → after ++ lines (drop (i + 1) xs) ≡ all
lines_more lines line xs i x before after all step within is grown known =
    ap (λ bs. bs ++ lines (drop (i + 1) xs)) grown ∙ append_assoc before (line x) (lines (drop (i + 1) xs))
    ∙ ap (λ bs. before ++ bs) (sym (at_drop_more lines xs i x within ∙ step (get_or xs i x) (drop (i + 1) xs) ∙ ap (λ y. line y ++ lines (drop (i + 1) xs)) (sym is)))
    ∙ known
