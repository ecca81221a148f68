-- The children after a replacement, cut where those that are renumbered begin and end.
use Rattle.typst_tree.proofs.Cited.{◌≡◌, ℕ, ◌+◌, ◌-◌, ◌*◌, ◌<◌, ◌≤◌, Bool, true, false, List, ◌∷◌, ◌++◌, length, take, drop, Some, None, refl, ap, sym, subst, ◌∙◌, arith, append_assoc, if◌then◌else◌, [], slice_range, nat_le, drop_split, nat_tests, Stretch, Head, Tree, forest, count, has_room, is_all, growth, fit, renumbered, exchanged, zero, suc, max, Result, OnOk, is_err}
use Rattle.std.proofs.lemmas.List.{take-append-drop, take-take, drop-take, take_at, drop_at, length-take, length-drop, length-append, length-take-le}

pub take_split : {X : Type 0} (xs : List X) (l f : ℕ) → l ≤ f → take f xs ≡ take l xs ++ slice_range xs l f
take_split xs l f h =
    let e : l + (f - l) ≡ f = omega arith in
    let d : drop l (take f xs) ≡ slice_range xs l f = rw e at (drop-take l (f - l) xs) in
    sym (take-append-drop l (take f xs)) ∙ (λ i. take-take l f xs h i ++ d i)

-- ys is xs with fs in place of f..t; l..r of xs has become l..h
pub record Cut {X : Type 0} (xs ys fs : List X) (l f t r h : ℕ) : Type 0 where
  pub before : take l ys ≡ take l xs
  pub part : slice_range ys l h ≡ slice_range xs l f ++ (fs ++ slice_range xs t r)
  pub behind : drop h ys ≡ drop r xs
  pub long : h ≤ length ys

pub cut : {X : Type 0} (xs ys fs : List X) (l f t r h : ℕ) → l ≤ f → f ≤ t → t ≤ r → r ≤ length xs → ys ≡ take f xs ++ (fs ++ drop t xs) → h ≡ f + length fs + (r - t) → Cut xs ys fs l f t r h
cut {X} xs ys fs l f t r h lf ft tr rn e hs =
    let a : List X = take l xs in
    let p : List X = slice_range xs l f ++ (fs ++ slice_range xs t r) in
    let d : List X = drop r xs in
    let whole : take f xs ++ (fs ++ drop t xs) ≡ (a ++ slice_range xs l f) ++ (fs ++ (slice_range xs t r ++ d)) =
    λ i. take_split xs l f lf i ++ (fs ++ drop_split xs t r tr i) in
    let is : ys ≡ a ++ (p ++ d) = e ∙ (whole ∙ simp append_assoc) in
    let long_a : length a ≡ l = length-take-le l xs (omega arith) in
    let long_p : length p ≡ h - l = simp (length-append, length-take, length-drop) (omega (arith, hs)) in
    let long_ap : length (a ++ p) ≡ h = omega (arith, length-append a p, long_a, long_p, hs) in
    record {
      before = ap (take l) is ∙ take_at a (p ++ d) l long_a;
      part = ap (λ zs. take (h - l) (drop l zs)) is ∙ (ap (take (h - l)) (drop_at a (p ++ d) l long_a) ∙ take_at p d (h - l) long_p);
      behind = ap (drop h) (is ∙ sym (append_assoc a p d)) ∙ drop_at (a ++ p) d h long_ap;
      long = omega (arith, ap length is, length-append a (p ++ d), length-append p d, long_a, long_p, hs);
    }

pub count-append : (xs ys : List Tree) → count (forest (xs ++ ys)) ≡ count (forest xs) + count (forest ys)
count-append [] ys = omega arith
count-append (x ∷ xs) ys = omega (arith, count-append xs ys)

pub exchanged_some : (file : ℕ) (h : Head) (xs : List Tree) (from to : ℕ) (ns zs : List Tree) (w : Stretch) → 0 < length ns → fit h xs from to (count (forest ns)) ≡ Some w → renumbered file xs from to ns w ≡ zs → exchanged file h xs from to ns ≡ Some zs
exchanged_some file h xs from to ns zs w some e p = grind arith

-- where the stretch stops growing there is room
pub growth_has_room : (h : Head) (xs : List Tree) (from to n tries k by : ℕ) → growth h xs from to n tries k ≡ Some by → has_room h xs from to n by ≡ true
growth_has_room h xs from to n zero k by e = absurd (cc)
growth_has_room h xs from to n (suc tries) k by e =
    at_room (has_room h xs from to n k) refl (λ g. growth_has_room h xs from to n tries (max 1 (2 * k)) by g) e
  where
    at_all : (a : Bool) → (growth h xs from to n tries (max 1 (2 * k)) ≡ Some by → has_room h xs from to n by ≡ true) → (if a then None else growth h xs from to n tries (max 1 (2 * k))) ≡ Some by → has_room h xs from to n by ≡ true
    at_all true f e = absurd (cc)
    at_all false f e = f e

    at_room : (b : Bool) → has_room h xs from to n k ≡ b → (growth h xs from to n tries (max 1 (2 * k)) ≡ Some by → has_room h xs from to n by ≡ true) → (if b then Some k else (if is_all xs from to k then None else growth h xs from to n tries (max 1 (2 * k)))) ≡ Some by → has_room h xs from to n by ≡ true
    at_room true r f e = let same : k ≡ by = cc in subst (λ (m : ℕ). has_room h xs from to n m ≡ true) same r
    at_room false r f e = at_all (is_all xs from to k) f e

pub le_from : (a b : ℕ) → nat_le a b ≡ true → a ≤ b
le_from a b e = grind (arith, nat_tests)

-- what holds on `Ok` holds where it is no `Err`
pub from_ok : {A E : Type 0} (r : Result A E) (P : Type 0) → OnOk r P → is_err r ≡ false → P
from_ok r P h e = grind arith
