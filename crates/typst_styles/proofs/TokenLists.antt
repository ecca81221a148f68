-- Tokens of which those behind an index are moved when they are read.
use Rattle.typst_styles.proofs.Cited.{◌≡◌, ℕ, zero, suc, ◌+◌, ◌-◌, ◌%◌, ◌^◌, ◌<◌, ◌≤◌, max, List, [], ◌∷◌, ◌++◌, length, map, take, drop, get_or, Some, refl, ap, sym, subst, ◌∙◌, arith, append_assoc, drop_at, length-append, length-drop, length-take, length-take-le, take_at, drop-append-add, take-append-add, cond_both, leb-true, ltb-true, drop-append-le, drop-drop, drop-map, length-map, take-append-drop, take-append-le, take-map, take-take, take_all, IsParted, begun_before, begun_from, carried, replaced, wrapped, AreOrdered, Token, nat_lt, nat_le, slice_get}
use Rattle.typst_styles.specs.TokenList.{IsSettled, in_places}
use Rattle.typst_styles.proofs.EachToken.{AllFrom, AllUnder, each_both}
use Rattle.typst_styles.proofs.RenewedTokens.{ordered_from, parted_by, put_between, put_moved}
use Rattle.typst_styles.proofs.TokenOrder.{lower}

-- ---- where they stand

pub in_length : (s d : ℕ) (ts : List Token) → length (in_places s d ts) ≡ length ts
in_length s d ts = omega (arith, length-append (take s ts) (map (wrapped d) (drop s ts)), length-map (drop s ts) (wrapped d), length-take s ts, length-drop s ts)

pub token_settled : (s d : ℕ) (ts : List Token) (i : ℕ) (e : Token) → i < s → i < length ts → slice_get (in_places s d ts) i ≡ Some (get_or ts i e)
token_settled s d [] i e here within = absurd (omega arith)
token_settled zero d (t ∷ ts) i e here within = absurd (omega arith)
token_settled (suc s) d (t ∷ ts) zero e here within = refl
token_settled (suc s) d (t ∷ ts) (suc i) e here within = token_settled s d ts i e (omega arith) (omega arith)

pub token_moved : (s d : ℕ) (ts : List Token) (i : ℕ) (e : Token) → s ≤ i → i < length ts → slice_get (in_places s d ts) i ≡ Some (wrapped d (get_or ts i e))
token_moved s d [] i e there within = absurd (omega arith)
token_moved zero d (t ∷ ts) zero e there within = refl
token_moved zero d (t ∷ ts) (suc i) e there within = token_moved zero d ts i e (omega arith) (omega arith)
token_moved (suc s) d (t ∷ ts) zero e there within = absurd (omega arith)
token_moved (suc s) d (t ∷ ts) (suc i) e there within = token_moved s d ts i e (omega arith) (omega arith)

-- ---- how many begin before a byte

ordered_front : (a : ℕ) (xs ys : List Token) → AreOrdered a (xs ++ ys) → AreOrdered a xs
ordered_front a [] ys w = tt
ordered_front a (t ∷ xs) ys w = (w.0, ordered_front t.start xs ys w.1)

ordered_back : (a : ℕ) (xs ys : List Token) → AreOrdered a (xs ++ ys) → AreOrdered a ys
ordered_back a [] ys w = w
ordered_back a (t ∷ xs) ys w = lower a t.start ys w.0 (ordered_back t.start xs ys w.1)

-- those that are picked begin before the byte, or at it or after it
picked_under : (byte : ℕ) (ts : List Token) → AllUnder byte (begun_before byte ts)
picked_under byte [] = tt
picked_under byte (t ∷ ts) =
    cond_both (nat_lt t.start byte) (t ∷ begun_before byte ts) (begun_before byte ts) (AllUnder byte) (λ e. (ltb-true t.start byte e, picked_under byte ts)) (λ e. picked_under byte ts)

picked_from : (byte : ℕ) (ts : List Token) → AllFrom byte (begun_from byte ts)
picked_from byte [] = tt
picked_from byte (t ∷ ts) =
    cond_both (nat_le byte t.start) (t ∷ begun_from byte ts) (begun_from byte ts) (AllFrom byte) (λ e. (leb-true byte t.start e, picked_from byte ts)) (λ e. picked_from byte ts)

-- where the first begins at a byte or after it, so do all behind it
all_from : (a byte : ℕ) (xs ys : List Token) → AreOrdered a (xs ++ ys) → 0 < length xs → AllFrom byte xs → AllFrom byte (xs ++ ys)
all_from a byte [] ys w some from = absurd (omega arith)
all_from a byte (t ∷ xs) ys w some from = (from.0, ordered_from byte t.start (xs ++ ys) from.0 w.1)

-- the place where the first of two lists parts, if it does
parted_front : (byte : ℕ) (xs ys : List Token) (i : ℕ) → AreOrdered 0 (xs ++ ys) → i < length xs → IsParted byte xs i → IsParted byte (xs ++ ys) i
parted_front byte xs ys i w less p =
    let fits : i ≤ length xs = omega arith in
    let ordered : AreOrdered 0 (drop i xs ++ ys) = ordered_back 0 (take i xs) (drop i xs ++ ys) (rw (sym (append_assoc (take i xs) (drop i xs) ys), take-append-drop i xs) w) in
    let from : AllFrom byte (drop i xs) = subst (AllFrom byte) (sym p.behind) (picked_from byte xs) in
    parted_by byte (xs ++ ys) i (subst (AllUnder byte) (sym (take-append-le i xs ys fits ∙ p.before)) (picked_under byte xs))
    (subst (AllFrom byte) (sym (drop-append-le i xs ys fits)) (all_from 0 byte (drop i xs) ys ordered (omega (arith, length-drop i xs)) from))

-- or the one where the second does
parted_back : (byte : ℕ) (xs ys : List Token) (i k : ℕ) → length xs ≤ i → IsParted byte xs i → IsParted byte ys k → IsParted byte (xs ++ ys) (length xs + k)
parted_back byte xs ys i k all p q =
    let first : AllUnder byte xs = subst (AllUnder byte) (sym p.before ∙ take_all i xs all) (picked_under byte xs) in
    let under : AllUnder byte (take k ys) = subst (AllUnder byte) (sym q.before) (picked_under byte ys) in
    parted_by byte (xs ++ ys) (length xs + k) (subst (AllUnder byte) (sym (take-append-add xs ys k)) (each_both (λ (t : Token). t.start < byte) xs (take k ys) first under))
    (subst (AllFrom byte) (sym (drop-append-add xs ys k ∙ q.behind)) (picked_from byte ys))

abbrev pub PartsIf : ℕ → List Token → ℕ → Type 0
PartsIf byte ts i = AreOrdered 0 ts → IsParted byte ts i

pub parts_early : (s d byte : ℕ) (ts : List Token) (i : ℕ) → s ≤ length ts → i < s → PartsIf byte (take s ts) i → PartsIf byte (in_places s d ts) i
parts_early s d byte ts i fits less parts = λ w.
    let xs : List Token = take s ts in
    let ys : List Token = map (wrapped d) (drop s ts) in
    parted_front byte xs ys i w (omega (arith, less, length-take-le s ts fits)) (parts (ordered_front 0 xs ys w))

pub parts_late : (s d byte : ℕ) (ts : List Token) (i k : ℕ) → s ≤ length ts → s ≤ i → PartsIf byte (take s ts) i → PartsIf byte (map (wrapped d) (drop s ts)) k → PartsIf byte (in_places s d ts) (s + k)
parts_late s d byte ts i k fits all first rest = λ w.
    let xs : List Token = take s ts in
    let ys : List Token = map (wrapped d) (drop s ts) in
    let size : length xs ≡ s = length-take-le s ts fits in
    subst (λ n. IsParted byte (xs ++ ys) (n + k)) size (parted_back byte xs ys i k (omega (arith, all, size)) (first (ordered_front 0 xs ys w)) (rest (ordered_back 0 xs ys w)))

-- ---- those before an index are put in their places

-- one is moved twice
twice : (d by : ℕ) (t : Token) → wrapped ((d + by) % 2 ^ 64) t ≡ wrapped by (wrapped d t)
twice d by t = grind arith

all_twice : (d by : ℕ) (ts : List Token) → map (wrapped ((d + by) % 2 ^ 64)) ts ≡ map (wrapped by) (map (wrapped d) ts)
all_twice d by [] = refl
all_twice d by (t ∷ ts) = λ i. twice d by t i ∷ all_twice d by ts i

pub part_some : (s d i : ℕ) (ts part : List Token) → s ≤ i → part ≡ map (wrapped d) (take (i - s) (drop s ts)) → take s ts ++ (part ++ drop (i - s) (drop s ts)) ≡ take s ts ++ (map (wrapped d) (take (i - s) (drop s ts)) ++ drop i ts)
part_some s d i ts part le is = grind (arith, drop-drop)

-- those between two indexes
pub settled_some : (s d i : ℕ) (old new : List Token) → s ≤ i → i ≤ length old → new ≡ take s old ++ (map (wrapped d) (take (i - s) (drop s old)) ++ drop i old) → IsSettled s d i old new d
settled_some s d i old new le within is =
    let n : ℕ = i - s in
    let xs : List Token = take s old in
    let ms : List Token = map (wrapped d) (take n (drop s old)) in
    let at : length xs + n ≡ i = omega (arith, length-take s old) in
    let size : length (xs ++ ms) ≡ i = omega (arith, length-append xs ms, length-map (take n (drop s old)) (wrapped d), length-take n (drop s old), length-drop s old, length-take s old) in
    let whole : new ≡ (xs ++ ms) ++ drop i old = is ∙ sym (append_assoc xs ms (drop i old)) in
    let later : drop n (drop s old) ≡ drop i old = drop-drop n s old ∙ ap (λ k. drop k old) (omega arith) in
    let moved : drop i (in_places s d old) ≡ map (wrapped d) (drop i old) =
    ap (λ k. drop k (in_places s d old)) (sym at) ∙ (drop-append-add xs (map (wrapped d) (drop s old)) n ∙ (drop-map (wrapped d) n (drop s old) ∙ ap (map (wrapped d)) later)) in
    grind (arith, take_at, take-append-add, take-map, drop_at, all_twice)

-- ---- others in the place of some

-- so many of those that were settled there are
settled_length : (s d i : ℕ) (old new : List Token) (left : ℕ) → i ≤ length old → IsSettled s d i old new left → i ≤ length new
settled_length s d i old new left within w =
    let size : length (take i new) ≡ i = ap length w.front ∙ length-take-le i (in_places s d old) (omega (arith, within, in_length s d old)) in
    omega (arith, size, length-take i new)

list_put : (s d first at by : ℕ) (old new made put : List Token) (left behind : ℕ) → first ≤ at → at ≤ length old → by < 2 ^ 64 → IsSettled s d at old new left → put ≡ take first new ++ (made ++ drop at new) → behind ≡ first + length made
    → in_places behind ((left + by) % 2 ^ 64) put ≡ take first (in_places s d old) ++ (made ++ map (wrapped by) (drop at (in_places s d old)))
list_put s d first at by old new made put left behind low within small w is size =
    let long : at ≤ length new = settled_length s d at old new left within w in
    let was : List Token = in_places s d old in
    let front : take first new ≡ take first was = sym (take-take first at new low) ∙ (ap (take first) w.front ∙ take-take first at was low) in
    grind (arith, put_moved)

pub list_replaced : (s d start end to first after at : ℕ) (old new made put : List Token) (left by distance behind : ℕ) → first ≤ length old → after ≤ length old → at ≡ max after first → PartsIf start (in_places s d old) first → PartsIf end (in_places s d old) after
    → IsSettled s d at old new left → put ≡ take first new ++ (made ++ drop at new) → behind ≡ first + length made → by ≡ (to + (2 ^ 64 - end)) % 2 ^ 64 → distance ≡ (left + by) % 2 ^ 64
    → AreOrdered 0 (in_places s d old) → start ≤ end → in_places behind distance put ≡ replaced start end to made (in_places s d old)
list_replaced s d start end to first after at old new made put left by distance behind within within_after at_is one two w is size by_is distance_is ordered le =
    let was : List Token = in_places s d old in
    let long : length was ≡ length old = in_length s d old in
    let whole : in_places behind distance put ≡ take first was ++ (made ++ map (carried end to) (drop at was)) =
    ap (λ n. in_places behind n put) distance_is
    ∙ (list_put s d first at by old new made put left behind (omega (arith, at_is)) (omega (arith, at_is, within, within_after)) (omega (arith, by_is)) w is size
    ∙ ap (λ n. take first was ++ (made ++ map (wrapped n) (drop at was))) by_is) in
    put_between start end to was made (in_places behind distance put) first after at (omega (arith, within, long)) (omega (arith, within_after, long)) one two at_is whole ordered le
