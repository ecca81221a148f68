-- The laws of siblings.
use Rattle.typst_tree.proofs.Cited.{◌≡◌, ℕ, zero, suc, ◌+◌, ◌≤◌, List, ◌∷◌, false, Bool, refl, ap, sym, ◌∙◌, arith, map, take, drop, [], find, Tree, forest, count, numbers}
use Rattle.typst_tree.specs.Steps.{At, at, is_sibling_after}

pub find_past : (p : At → Bool) (x : At) (xs ys : List At) → ys ≡ x ∷ xs → false ≡ p x → find p ys ≡ find p xs
find_past p x xs ys e fails = ap (find p) e ∙ rw (sym fails) refl

none_first : (a : At) (root : Tree) (n : ℕ) → n ≤ a.number → is_sibling_after a (at root n) ≡ false
none_first a root n h = grind arith

-- children up to a node itself aren't behind it
pub find_behind : (a : At) (root : Tree) (n i : ℕ) (xs : List Tree) → n + count (forest (take i xs)) ≤ a.number → find (is_sibling_after a) (map (at root) (numbers n (forest xs))) ≡ find (is_sibling_after a) (drop i (map (at root) (numbers n (forest xs))))
find_behind a root n zero xs h = refl
find_behind a root n (suc i) [] h = refl
find_behind a root n (suc i) (x ∷ xs) h =
    rw (none_first a root n (omega (arith, h))) (find_behind a root (n + 1 + count x.kids) i xs (omega (arith, h)))

pub drop_numbers : (root : Tree) (n i : ℕ) (xs : List Tree) → drop i (map (at root) (numbers n (forest xs))) ≡ map (at root) (numbers (n + count (forest (take i xs))) (forest (drop i xs)))
drop_numbers root n zero xs = let same : n ≡ n + 0 = omega arith in ap (λ m. map (at root) (numbers m (forest xs))) same
drop_numbers root n (suc i) [] = refl
drop_numbers root n (suc i) (x ∷ xs) =
    let same : n + 1 + count x.kids + count (forest (take i xs)) ≡ n + (1 + (count x.kids + count (forest (take i xs)))) = omega arith in
    drop_numbers root (n + 1 + count x.kids) i xs ∙ ap (λ m. map (at root) (numbers m (forest (drop i xs)))) same
