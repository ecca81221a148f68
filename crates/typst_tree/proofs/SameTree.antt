-- `same_tree` is the test of `bare t ≡ bare u`.
use Rattle.typst_tree.proofs.Cited.{◌≡◌, ℕ, ◌+◌, ◌<◌, ◌≤◌, Bool, true, false, IsTrue, List, ◌∷◌, length, drop, get_or, refl, ap, subst, arith, [], nat_tests, drop_more, drop_all, min, Tree, tree_code, bare, same_code, same_tree, front, and_parts, false_from_ne_true}
use base.Stored.{Gv, gnil, gnum, gcons}

pub code_same : (a : Gv) → same_code a a ≡ true
code_same gnil = refl
code_same (gnum n) = grind (arith, nat_tests)
code_same (gcons a b) = rw (code_same a, code_same b) refl

pub same_code_is : (a b : Gv) → same_code a b ≡ true → a ≡ b
same_code_is gnil gnil e = refl
same_code_is gnil (gnum n) e = absurd (cc)
same_code_is gnil (gcons a b) e = absurd (cc)
same_code_is (gnum n) gnil e = absurd (cc)
same_code_is (gnum n) (gnum m) e = let h : n ≡ m = grind (arith, nat_tests) in ap gnum h
same_code_is (gnum n) (gcons a b) e = absurd (cc)
same_code_is (gcons a b) gnil e = absurd (cc)
same_code_is (gcons a b) (gnum n) e = absurd (cc)
same_code_is (gcons a b) (gcons c d) e =
    let p = and_parts (same_code a c) (same_code b d) e in
    λ i. gcons (same_code_is a c p.0 i) (same_code_is b d p.1 i)

pub same_tree_is : (t u : Tree) → same_tree t u ≡ true → bare t ≡ bare u
unfolding same_tree
same_tree_is t u e = tree_code.inj (bare t) (bare u) (same_code_is _ _ e)

pub same_from_bare : (t u : Tree) → bare t ≡ bare u → same_tree t u ≡ true
unfolding same_tree
same_from_bare t u e = subst (λ (v : Tree). same_code (tree_code.code (bare t)) (tree_code.code v) ≡ true) e (code_same (tree_code.code (bare t)))

pub not_same : (t u : Tree) (b : Bool) → b ≡ false → (bare t ≡ bare u → IsTrue b) → same_tree t u ≡ false
not_same t u b e h =
    false_from_ne_true (same_tree t u) (λ s. let i : IsTrue b = h (same_tree_is t u s) in absurd (cc))

pub front_more : (xs ys : List Tree) (i : ℕ) (x y : Tree) → x ≡ get_or xs i x → y ≡ get_or ys i y → i < length xs → i < length ys → same_tree x y ≡ true → front (drop i xs) (drop i ys) ≡ front (drop (i + 1) xs) (drop (i + 1) ys) + 1
front_more xs ys i x y p q h k e = rw (drop_more xs i x h, drop_more ys i y k, ← p, ← q, e) refl

pub front_none : (xs ys : List Tree) (i : ℕ) (x y : Tree) → x ≡ get_or xs i x → y ≡ get_or ys i y → i < length xs → i < length ys → same_tree x y ≡ false → front (drop i xs) (drop i ys) ≡ 0
front_none xs ys i x y p q h k e = rw (drop_more xs i x h, drop_more ys i y k, ← p, ← q, e) refl

pub front_right : (xs : List Tree) → front xs [] ≡ 0
front_right [] = refl
front_right (x ∷ xs) = refl

pub front_end : (xs ys : List Tree) (i : ℕ) → min (length xs) (length ys) ≤ i → front (drop i xs) (drop i ys) ≡ 0
front_end xs ys i h = grind (arith, drop_all, front_right)
