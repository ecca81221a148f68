-- Where replacing is refused.
use Rattle.typst_tree.proofs.Cited.{◌≡◌, ℕ, zero, suc, ◌+◌, ◌-◌, ◌*◌, ◌<◌, ◌≤◌, ◌&&◌, inl, inr, max, Bool, true, false, List, ◌∷◌, ◌++◌, length, take, drop, map, Option, Some, None, refl, ap, sym, ◌∙◌, arith, if◌then◌else◌, [], slice_range, nat_le, option_map, nat_tests, take_rest, slice_get_past, Stretch, SpanValue, number_of, Head, Tree, forest, count, bare, bare_forest, front, kids_of, with_kids, has_room, is_all, growth, stretch, fit, middle, back, in_file, swapped, exchanged, renumbered, replaced, Reaches, IsFull}
use Rattle.typst_tree.proofs.SpansAside.{forest_bare}
use Rattle.typst_tree.proofs.Numbering.{count_bare}
use Rattle.typst_tree.proofs.Stretches.{count-append}
use Rattle.typst_tree.proofs.SetAside.{aside}

all_is : (from len to k : ℕ) → (nat_le from k && nat_le len (to + k)) ≡ true → (from ≤ k) × (len ≤ to + k)
all_is from len to k e = (grind (arith, nat_tests), grind (arith, nat_tests))

-- a stretch that has all children has as much room as any other such
pub all_room : (h : Head) (xs : List Tree) (from to n j k : ℕ) → from ≤ j → length xs ≤ to + j → from ≤ k → length xs ≤ to + k → has_room h xs from to n j ≡ has_room h xs from to n k
all_room h xs from to n j k p q r s = grind arith

-- one try of a growth that fails, whose next tries come to g
fails_once : (h : Head) (xs : List Tree) (from to n k : ℕ) (g : Option ℕ) → from ≤ length xs → (if has_room h xs from to n k then Some k else (if is_all xs from to k then None else g)) ≡ None →
    (is_all xs from to k ≡ false → g ≡ None → has_room h xs from to n (length xs) ≡ false) → has_room h xs from to n (length xs) ≡ false
fails_once h xs from to n k g w e more = by_room (has_room h xs from to n k) refl e
  where
    by_all : (b : Bool) → is_all xs from to k ≡ b → has_room h xs from to n k ≡ false → (if b then None else g) ≡ None → has_room h xs from to n (length xs) ≡ false
    by_all true a r e =
        let all = all_is from (length xs) to k a in all_room h xs from to n (length xs) k w (omega arith) all.0 all.1 ∙ r
    by_all false a r e = more a e

    by_room : (b : Bool) → has_room h xs from to n k ≡ b → (if b then Some k else (if is_all xs from to k then None else g)) ≡ None → has_room h xs from to n (length xs) ≡ false
    by_room true r e = absurd (cc)
    by_room false r e = by_all (is_all xs from to k) refl r e

-- growing ends only where all children have too little room
growth_fails : (h : Head) (xs : List Tree) (from to n tries k : ℕ) → from ≤ length xs → length xs ≤ tries + k → growth h xs from to n (suc tries) k ≡ None → has_room h xs from to n (length xs) ≡ false
growth_fails h xs from to n zero k w more e = grind arith
growth_fails h xs from to n (suc tries) k w more e =
    fails_once h xs from to n k (growth h xs from to n (suc tries) (max 1 (2 * k))) w e (λ a g. growth_fails h xs from to n tries (max 1 (2 * k)) w (omega arith) g)

fit_fails : (h : Head) (xs : List Tree) (from to n : ℕ) → from ≤ length xs → fit h xs from to n ≡ None → has_room h xs from to n (length xs) ≡ false
fit_fails h xs from to n w e =
    let one : suc (length xs) ≡ length xs + 1 = omega arith in
    growth_fails h xs from to n (length xs) 0 w (omega arith) (ap (λ t. growth h xs from to n t 0) one ∙ by_growth (growth h xs from to n (length xs + 1) 0) e)
  where
    by_growth : (g : Option ℕ) → option_map (stretch h xs from to n) g ≡ None → g ≡ None
    by_growth g e = grind arith

not_le : (a b : ℕ) → nat_le a b ≡ false → b < a
not_le a b e = grind (arith, nat_tests)

-- all children have too little room
full : (h : Head) (xs : List Tree) (from to : ℕ) (ns : List Tree) → from ≤ to → to ≤ length xs → has_room h xs from to (count (forest ns)) (length xs) ≡ false → h.upper - max 2 (number_of h.span + 1) < count (forest (take from xs ++ (ns ++ drop to xs)))
full h xs from to ns order within e = grind (arith, not_le, take_rest, slice_get_past, count-append)

exchange_fails : (file : ℕ) (h : Head) (xs : List Tree) (from to : ℕ) (ns : List Tree) → from ≤ to → to ≤ length xs → exchanged file h xs from to ns ≡ None → h.upper - max 2 (number_of h.span + 1) < count (forest (take from xs ++ (ns ++ drop to xs)))
exchange_fails file h xs from to [] order within e = absurd (cc)
exchange_fails file h xs from to (n ∷ ns) order within e =
    full h xs from to (n ∷ ns) order within (fit_fails h xs from to (count (forest (n ∷ ns))) (omega arith) (by_fit (fit h xs from to (count (forest (n ∷ ns)))) e))
  where
    by_fit : (f : Option Stretch) → option_map (renumbered file xs from to (n ∷ ns)) f ≡ None → f ≡ None
    by_fit f e = grind arith

count_same : (xs ys : List Tree) → map bare xs ≡ map bare ys → count (forest xs) ≡ count (forest ys)
count_same xs ys e =
    let f : count (bare_forest (forest xs)) ≡ count (bare_forest (forest ys)) = ap count (sym (forest_bare xs) ∙ (ap forest e ∙ forest_bare ys)) in omega (arith, f, count_bare (forest xs), count_bare (forest ys))

pub replaced_full : (from to : ℕ) (new : List Tree) (t : Tree) → Reaches [] from to t → replaced from to new t ≡ None → IsFull from to new t
replaced_full from to new t r e = by_file t.head.span refl e
  where
    by_kids : (o : Option (List Tree)) → option_map (with_kids t) o ≡ None → o ≡ None
    by_kids o e = grind arith

    by_file : (sp : SpanValue) → t.head.span ≡ sp → option_map (with_kids t) (in_file sp t.head (kids_of t) from to new) ≡ None → IsFull from to new t
    by_file None q e = inl q
    by_file (Some p) q e =
        let a = front (slice_range (kids_of t) from to) new in
        let b = back a (slice_range (kids_of t) from to) new in
        let s = aside (kids_of t) new from to a b r.1 r.2 refl refl in
        let f = exchange_fails p.0 t.head (kids_of t) (from + a) (to - b) (middle a b new) s.order s.within (by_kids (swapped p.0 t.head (kids_of t) from to (slice_range (kids_of t) from to) new) e) in
        inr (omega (arith, f, count_same (take (from + a) (kids_of t) ++ (middle a b new ++ drop (to - b) (kids_of t))) (take from (kids_of t) ++ (new ++ drop to (kids_of t))) s.same))
