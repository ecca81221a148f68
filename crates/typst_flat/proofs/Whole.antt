-- All nodes of a tree meet the stretch of all bytes.
use Rattle.typst_flat.proofs.Cited.{◌≡◌, ℕ, zero, suc, ◌+◌, ◌-◌, ◌^◌, ◌≤◌, Bool, true, List, [], ◌∷◌, length, map, refl, ap, sym, ◌∙◌, arith, filter, nat_tests, length-map, Tree, nodes, At, at, numbers_from, all_of, meets, met_in, node_record, records, records_in, Stretch}

meets_all : (s : Stretch) (a : At) → s.start ≡ 0 → s.end ≡ 2 ^ 64 - 1 → meets s a ≡ true
meets_all s a e f = grind (arith, nat_tests, e, f)

kept : {A : Type 0} (p : A → Bool) (xs : List A) → ((x : A) → p x ≡ true) → filter p xs ≡ xs
kept p [] h = refl
kept p (x ∷ xs) h = let holds : p x ≡ true = h x in rw (holds, kept p xs h) refl

-- what a walk has still to come to before its first step
pub ahead_first : (s t : Stretch) (r root : Tree) (n : ℕ) → t ≡ s → r ≡ root → n ≡ 0 → met_in s root ≡ filter (meets t) (map (at r) (numbers_from n (nodes r - n)))
ahead_first s t r root n e f g = grind arith

pub all_first : (t : Stretch) (r root : Tree) (n : ℕ) → t.start ≡ 0 → t.end ≡ 2 ^ 64 - 1 → r ≡ root → n ≡ 0 → all_of root ≡ filter (meets t) (map (at r) (numbers_from n (nodes r - n)))
all_first t r root n a b f g = sym (kept (meets t) (all_of root) (λ x. meets_all t x a b)) ∙ ahead_first t t r root n refl f g

pub whole : (s : Stretch) (root : Tree) → s.start ≡ 0 → s.end ≡ 2 ^ 64 - 1 → records_in s root ≡ records root
whole s root e f = ap (map node_record) (kept (meets s) (all_of root) (λ a. meets_all s a e f))

counted : (n c : ℕ) → length (numbers_from n c) ≡ c
counted n zero = refl
counted n (suc c) = ap suc (counted (n + 1) c)

pub length_all : (root : Tree) → length (all_of root) ≡ nodes root
length_all root = length-map (numbers_from 0 (nodes root)) (at root) ∙ counted 0 (nodes root)

pub length_records : (root : Tree) → length (records root) ≡ nodes root
length_records root = length-map (all_of root) node_record ∙ length_all root

fewer : {A : Type 0} (p : A → Bool) (xs : List A) → length (filter p xs) ≤ length xs
fewer p [] = omega arith
fewer p (x ∷ xs) = grind (arith, fewer p xs)

-- no more nodes meet a stretch than there are
pub met_most : (s : Stretch) (root : Tree) → length (met_in s root) ≤ nodes root
met_most s root = omega (arith, fewer (meets s) (all_of root), length_all root)
