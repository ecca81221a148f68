-- The trees that are set aside at the front and at the end.
use Rattle.typst_tree.proofs.Cited.{◌≡◌, ℕ, ◌+◌, ◌-◌, ◌≤◌, Bool, true, false, List, ◌∷◌, ◌++◌, length, take, drop, map, reverse, refl, ap, sym, ◌∙◌, arith, append_assoc, add-one, if◌then◌else◌, [], slice_range, drop_split, take-add, Tree, bare, same_tree, front, middle, back}
use Rattle.std.proofs.lemmas.List.{take-append-drop, take-take, drop-drop, drop-take, take_at, length-take, length-drop, length-reverse, reverse-append, reverse-reverse, map-append}
use Rattle.typst_tree.proofs.SameTree.{same_tree_is}

pub front_le-left : (xs ys : List Tree) → front xs ys ≤ length xs
front_le-left [] ys = omega arith
front_le-left (x ∷ xs) [] = omega arith
front_le-left (x ∷ xs) (y ∷ ys) = by_test (same_tree x y) (front_le-left xs ys)
  where
    by_test : (b : Bool) → front xs ys ≤ length xs → (if b then front xs ys + 1 else 0) ≤ length (x ∷ xs)
    by_test true l = omega arith
    by_test false l = omega arith

pub front_le-right : (xs ys : List Tree) → front xs ys ≤ length ys
front_le-right [] ys = omega arith
front_le-right (x ∷ xs) [] = omega arith
front_le-right (x ∷ xs) (y ∷ ys) = by_test (same_tree x y) (front_le-right xs ys)
  where
    by_test : (b : Bool) → front xs ys ≤ length ys → (if b then front xs ys + 1 else 0) ≤ length (y ∷ ys)
    by_test true l = omega arith
    by_test false l = omega arith

-- the first of both are the same
pub front_same : (xs ys : List Tree) → map bare (take (front xs ys) xs) ≡ map bare (take (front xs ys) ys)
front_same [] ys = refl
front_same (x ∷ xs) [] = refl
front_same (x ∷ xs) (y ∷ ys) = by_test (same_tree x y) refl (front_same xs ys)
  where
    by_test : (b : Bool) → same_tree x y ≡ b → map bare (take (front xs ys) xs) ≡ map bare (take (front xs ys) ys) → map bare (take (if b then front xs ys + 1 else 0) (x ∷ xs)) ≡ map bare (take (if b then front xs ys + 1 else 0) (y ∷ ys))
    by_test true s e = rw add-one (λ i. same_tree_is x y s i ∷ e i)
    by_test false s e = refl

map_reverse : (ts : List Tree) → map bare (reverse ts) ≡ reverse (map bare ts)
map_reverse [] = refl
map_reverse (t ∷ ts) =
    ap (map bare) (reverse-append (t ∷ []) ts) ∙ (map-append bare (reverse ts) (t ∷ []) ∙ (ap (λ us. us ++ bare t ∷ []) (map_reverse ts) ∙ sym (reverse-append (bare t ∷ []) (map bare ts))))

take_reverse : (ts : List Tree) (b : ℕ) → b ≤ length ts → take b (reverse ts) ≡ reverse (drop (length ts - b) ts)
take_reverse ts b h =
    let n = length ts - b in
    let e : reverse ts ≡ reverse (drop n ts) ++ reverse (take n ts) = ap reverse (sym (take-append-drop n ts)) ∙ reverse-append (take n ts) (drop n ts) in
    ap (take b) e ∙ take_at (reverse (drop n ts)) (reverse (take n ts)) b (omega (arith, length-reverse (drop n ts), length-drop n ts))

-- the last of both are the same
pub tails_same : (xs ys : List Tree) (b : ℕ) → b ≡ front (reverse xs) (reverse ys) → map bare (drop (length xs - b) xs) ≡ map bare (drop (length ys - b) ys)
tails_same xs ys b is =
    let l : b ≤ length xs = omega (arith, is, front_le-left (reverse xs) (reverse ys), length-reverse xs) in
    let r : b ≤ length ys = omega (arith, is, front_le-right (reverse xs) (reverse ys), length-reverse ys) in
    let e : map bare (take b (reverse xs)) ≡ map bare (take b (reverse ys)) = rw is (front_same (reverse xs) (reverse ys)) in
    let f : reverse (map bare (drop (length xs - b) xs)) ≡ reverse (map bare (drop (length ys - b) ys)) =
    sym (map_reverse (drop (length xs - b) xs)) ∙ (ap (map bare) (sym (take_reverse xs b l)) ∙ (e ∙ (ap (map bare) (take_reverse ys b r) ∙ map_reverse (drop (length ys - b) ys)))) in
    sym (reverse-reverse (map bare (drop (length xs - b) xs))) ∙ (ap reverse f ∙ reverse-reverse (map bare (drop (length ys - b) ys)))

-- lists that differ in two parts, which are the same on both sides
glue : (p q a a' m c c' : List Tree) → map bare a ≡ map bare a' → map bare c ≡ map bare c' → map bare ((p ++ a) ++ (m ++ (c ++ q))) ≡ map bare (p ++ ((a' ++ (m ++ c')) ++ q))
glue p q a a' m c c' e f = simp (map-append, append_assoc, e, f)

-- the rest of a list, without a at its front and b at its end
pub rest_parts : (ys : List Tree) (a b : ℕ) → a + b ≤ length ys → ys ≡ take a ys ++ (middle a b ys ++ drop (length (drop a ys) - b) (drop a ys))
rest_parts ys a b h = grind (arith, length-drop, take-append-drop)

-- the last b of the part from..to of xs, without its first a
last_part : (xs : List Tree) (from to a b : ℕ) → from + a + b ≤ to → to ≤ length xs → slice_range xs (to - b) to ≡ drop (length (drop a (slice_range xs from to)) - b) (drop a (slice_range xs from to))
last_part xs from to a b h w =
    let m = to - from - b in
    let long : length (slice_range xs from to) ≡ to - from = omega (arith, length-take (to - from) (drop from xs), length-drop from xs) in
    let n : a + (length (drop a (slice_range xs from to)) - b) ≡ m = omega (arith, length-drop a (slice_range xs from to), long) in
    grind (arith, drop-drop, drop-take)

-- what is left to exchange where a are set aside at the front and b at the end
pub record Aside (xs new : List Tree) (from to a b : ℕ) : Type 0 where
  pub order : from + a ≤ to - b
  pub within : to - b ≤ length xs
  pub same : map bare (take (from + a) xs ++ (middle a b new ++ drop (to - b) xs)) ≡ map bare (take from xs ++ (new ++ drop to xs))

pub aside : (xs new : List Tree) (from to a b : ℕ) → from ≤ to → to ≤ length xs → a ≡ front (slice_range xs from to) new → b ≡ back a (slice_range xs from to) new → Aside xs new from to a b
aside xs new from to a b order within p q =
    let long : length (slice_range xs from to) ≡ to - from = omega (arith, length-take (to - from) (drop from xs), length-drop from xs) in
    let a-old : a ≤ length (slice_range xs from to) = omega (arith, p, front_le-left (slice_range xs from to) new) in
    let a-new : a ≤ length new = omega (arith, p, front_le-right (slice_range xs from to) new) in
    let b-old : a + b ≤ length (slice_range xs from to) =
    omega (arith, q, a-old, front_le-left (reverse (drop a (slice_range xs from to))) (reverse (drop a new)), length-reverse (drop a (slice_range xs from to)), length-drop a (slice_range xs from to)) in
    let b-new : a + b ≤ length new =
    omega (arith, q, a-new, front_le-right (reverse (drop a (slice_range xs from to))) (reverse (drop a new)), length-reverse (drop a new), length-drop a new) in
    let fronts : map bare (take a (slice_range xs from to)) ≡ map bare (take a new) = rw p (front_same (slice_range xs from to) new) in
    let first : take (from + a) xs ≡ take from xs ++ take a (slice_range xs from to) =
    take-add from a xs ∙ ap (λ zs. take from xs ++ zs) (sym (take-take a (to - from) (drop from xs) (omega (arith, long, a-old)))) in
    let last : drop (to - b) xs ≡ drop (length (drop a (slice_range xs from to)) - b) (drop a (slice_range xs from to)) ++ drop to xs =
    drop_split xs (to - b) to (omega arith) ∙ ap (λ zs. zs ++ drop to xs) (last_part xs from to a b (omega (arith, long, b-old)) within) in
    let all : new ≡ take a new ++ (middle a b new ++ drop (length (drop a new) - b) (drop a new)) = rest_parts new a b b-new in
    grind (arith, tails_same (drop a (slice_range xs from to)) (drop a new) b q, glue)
