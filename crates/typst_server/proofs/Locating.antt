-- What stands at ranges, one after the other.
use Rattle.typst_server.proofs.Cited.{◌≡◌, ℕ, ◌+◌, ◌<◌, ◌≤◌, List, [], ◌∷◌, ◌++◌, length, take, get_or, Option, Result, IfOk, String, ap, sym, subst, arith, map_more, take_all, Range, string_bytes, Data, Occurrence, Opened, AreAt, AtPosition, occurrences, map}
use Rattle.std.specs.declared.alloc.Global.{Global}

-- one more stands at the next range
one_more : {A : Type 0} (Is : Range ℕ → A → Type 0) (rs : List (Range ℕ)) (xs : List A) (r : Range ℕ) (x : A) → AreAt Is rs xs → Is r x → AreAt Is (rs ++ r ∷ []) (xs ++ x ∷ [])
one_more Is [] [] r x h one = (one, tt)
one_more Is [] (y ∷ ys) r x h one = absurd h
one_more Is (s ∷ rs) [] r x h one = absurd h
one_more Is (s ∷ rs) (y ∷ ys) r x h one = (h.0, one_more Is rs ys r x h.1 one)

pub located_more : {A B : Type 0} (Is : Range ℕ → A → Type 0) (range_of : B → Range ℕ) (found : List B) (xs : List A) (i : ℕ) (d : B) (x : A) → i < length found → AreAt Is (map range_of (take i found)) xs
    → Is (range_of (get_or found i d)) x → AreAt Is (map range_of (take (i + 1) found)) (xs ++ x ∷ [])
located_more Is range_of found xs i d x within h one =
    subst (λ rs. AreAt Is rs (xs ++ x ∷ [])) (sym (map_more range_of found i d within)) (one_more Is (map range_of (take i found)) xs (range_of (get_or found i d)) x h one)

pub located_all : {A B : Type 0} (Is : Range ℕ → A → Type 0) (range_of : B → Range ℕ) (found : List B) (xs : List A) (i : ℕ) → length found ≤ i → AreAt Is (map range_of (take i found)) xs → AreAt Is (map range_of found) xs
located_all Is range_of found xs i past h = subst (λ ys. AreAt Is ys xs) (ap (map range_of) (take_all i found past)) h

-- what is said of the occurrences that were found is said of those at the position
pub told_at : {E : Type 0} (params : Option Data) (document : Opened) (pick : List Occurrence → List (Range ℕ)) (os : List Occurrence) (Tell : List (Range ℕ) → List ℕ → Type 0) (result : Result (String Global) E)
    → AtPosition params document (λ b. os ≡ occurrences document b) → IfOk result (λ text. Tell (pick os) (string_bytes text)) → IfOk result (λ text. AtPosition params document (λ b. Tell (pick (occurrences document b)) (string_bytes text)))
told_at params document pick os Tell result at h = grind arith
