-- Tables of what is said of numbers.
use Rattle.typst_tokens.proofs.Cited.{◌≡◌, ◌<◌, ℕ, zero, suc, ◌+◌, true, nat_lt, List, [], ◌∷◌, ap, ◌∙◌, arith, slice_index_or, nat_tests}

-- what a function says of k numbers from n on
abbrev pub tabulate : {A : Type 0} → (ℕ → A) → ℕ → ℕ → List A
tabulate f n zero = []
tabulate f n (suc k) = f n ∷ tabulate f (suc n) k

pub tabulated : {A : Type 0} (x : A) (f : ℕ → A) (n k i : ℕ) → i < k → slice_index_or (tabulate f n k) i x ≡ f (n + i)
tabulated x f n zero i lt = absurd (omega arith)
tabulated x f n (suc k) zero lt = ap f (omega arith)
tabulated x f n (suc k) (suc i) lt = tabulated x f (suc n) k i (omega arith) ∙ ap f (omega arith)

pub below : (c n : ℕ) → true ≡ nat_lt c n → c < n
below c n e = grind (arith, nat_tests, e)

pub tabulated-from_zero : {A : Type 0} (x : A) (f : ℕ → A) (k i : ℕ) → i < k → slice_index_or (tabulate f 0 k) i x ≡ f i
tabulated-from_zero x f k i lt = tabulated x f 0 k i lt ∙ ap f (omega arith)
