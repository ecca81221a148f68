-- A row without one of its trees is no larger.
use Rattle.typst_tree.proofs.Cited.{ℕ, ◌-◌, ◌<◌, ◌≤◌, List, [], ◌∷◌, length, take, zero, suc, slice_set, slice_index_or, arith, swap_remove, most, at_most}

pub most-take : {X : Type 0} (f : X → ℕ) (n : ℕ) (xs : List X) → most f (take n xs) ≤ most f xs
most-take f zero xs = omega arith
most-take f (suc n) [] = omega arith
most-take f (suc n) (x ∷ xs) = omega (arith, most-take f n xs)

pub most-slice_set : {X : Type 0} (f : X → ℕ) (xs : List X) (i : ℕ) (y : X) (m : ℕ) → most f xs ≤ m → f y ≤ m → most f (slice_set xs i y) ≤ m
most-slice_set f [] i y m p q = omega arith
most-slice_set f (x ∷ xs) zero y m p q = omega arith
most-slice_set f (x ∷ xs) (suc i) y m p q = let h : most f (slice_set xs i y) ≤ m = most-slice_set f xs i y m (omega arith) q in omega arith

pub most-swap_remove : {X : Type 0} (f : X → ℕ) (xs : List X) (i : ℕ) (d : X) → i < length xs → most f (swap_remove xs i d) ≤ most f xs
most-swap_remove f xs i d p =
    let h = most-take f (length xs - 1) (slice_set xs i (slice_index_or xs (length xs - 1) d)) in
    let k = most-slice_set f xs i (slice_index_or xs (length xs - 1) d) (most f xs) (omega arith) (at_most f xs (length xs - 1) d (omega arith)) in
    omega (arith, h, k)
