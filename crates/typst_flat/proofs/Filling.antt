-- What an array holds into which a list is put.
use Rattle.typst_flat.proofs.Cited.{◌≡◌, ℕ, zero, suc, ◌+◌, ◌^◌, ◌<◌, ◌≤◌, List, [], ◌∷◌, ◌++◌, length, take, drop, map, refl, ap, sym, ◌∙◌, arith, set, get_or, append_assoc, length-append, length-take, length-map, map-append, take_more, saturated, filled}

-- one more that fits
pub filled_more : {A : Type 0} (xs old : List A) (x : A) → length xs < length old → set (filled xs old) (length xs) x ≡ filled (xs ++ x ∷ []) old
filled_more [] [] x h = absurd (omega (arith, h))
filled_more [] (y ∷ old) x h = refl
filled_more (z ∷ xs) [] x h = absurd (omega (arith, h))
filled_more (z ∷ xs) (y ∷ old) x h = ap (λ ys. z ∷ ys) (filled_more xs old x (omega (arith, h)))

-- one more that doesn't fit
pub filled_full : {A : Type 0} (xs old : List A) (x : A) → length old ≤ length xs → filled xs old ≡ filled (xs ++ x ∷ []) old
filled_full [] [] x h = refl
filled_full [] (y ∷ old) x h = absurd (omega (arith, h))
filled_full (z ∷ xs) [] x h = refl
filled_full (z ∷ xs) (y ∷ old) x h = ap (λ ys. z ∷ ys) (filled_full xs old x (omega (arith, h)))

pub length_filled : {A : Type 0} (xs old : List A) → length (filled xs old) ≡ length old
length_filled [] old = refl
length_filled (z ∷ xs) [] = refl
length_filled (z ∷ xs) (y ∷ old) = ap suc (length_filled xs old)

-- the first of what is left behind n elements
pub record First {A : Type 0} (n : ℕ) (xs : List A) (x : A) (ys : List A) : Type 0 where
  pub before : take (suc n) xs ≡ take n xs ++ x ∷ []
  pub behind : drop (suc n) xs ≡ ys
  pub within : n < length xs
  pub long : length (take n xs) ≡ n

pub first_left : {A : Type 0} (n : ℕ) (xs : List A) (x : A) (ys : List A) → drop n xs ≡ x ∷ ys → First n xs x ys
first_left zero [] x ys e = absurd (cc)
first_left (suc n) [] x ys e = absurd (cc)
first_left zero (z ∷ xs) x ys e = grind arith
first_left (suc n) (z ∷ xs) x ys e = grind (arith, first_left n xs x ys e)

-- one element more is taken, with the next number as a sum
pub taken_next : {A : Type 0} (n : ℕ) (xs : List A) (x : A) (ys : List A) → drop n xs ≡ x ∷ ys → take (n + 1) xs ≡ take n xs ++ x ∷ []
taken_next n xs x ys e = let one : n + 1 ≡ suc n = omega arith in ap (λ k. take k xs) one ∙ (first_left n xs x ys e).before

pub left_next : {A : Type 0} (n : ℕ) (xs : List A) (x : A) (ys : List A) → drop n xs ≡ x ∷ ys → drop (n + 1) xs ≡ ys
left_next n xs x ys e = let one : n + 1 ≡ suc n = omega arith in ap (λ k. drop k xs) one ∙ (first_left n xs x ys e).behind

pub none_left : {A : Type 0} (n : ℕ) (xs : List A) → drop n xs ≡ [] → n ≤ length xs → (take n xs ≡ xs) × (length xs ≡ n)
none_left zero [] e h = (refl, refl)
none_left zero (z ∷ xs) e h = absurd (cc)
none_left (suc n) [] e h = absurd (omega (arith, h))
none_left (suc n) (z ∷ xs) e h = let w = none_left n xs e (omega (arith, h)) in (ap (λ zs. z ∷ zs) w.0, ap suc w.1)

-- the record of the next element is put behind the others, where it fits
pub step_fits : {A B : Type 0} (f : A → B) (n : ℕ) (xs : List A) (x : A) (ys : List A) (room old : List B) (y : B) → drop n xs ≡ x ∷ ys → room ≡ filled (map f (take n xs)) old → y ≡ f x → n < length room → set room n y ≡ filled (map f (take (n + 1) xs)) old
step_fits f n xs x ys room old y e h g l = grind (arith, length-map, first_left, length_filled, taken_next, map-append, filled_more)

-- where it doesn't fit, nothing changes
pub step_full : {A B : Type 0} (f : A → B) (n : ℕ) (xs : List A) (x : A) (ys : List A) (room old : List B) → drop n xs ≡ x ∷ ys → room ≡ filled (map f (take n xs)) old → length room ≤ n → room ≡ filled (map f (take (n + 1) xs)) old
step_full f n xs x ys room old e h l = grind (arith, length-map, first_left, length_filled, taken_next, map-append, filled_full)

-- one byte more of a text behind what stands in the array
pub byte_fits : (bs before old room : List ℕ) (i a b : ℕ) → a ≡ saturated (length before) → room ≡ filled (before ++ take i bs) old → b ≡ get_or bs i 0 → i < length bs → saturated (a + i) < length room → length room < 2 ^ 64 → set room (saturated (a + i)) b ≡ filled (before ++ take (i + 1) bs) old
byte_fits bs before old room i a b e h g l m w =
    let front : length (take i bs) ≡ i = omega (arith, length-take i bs, l) in
    let len : length (before ++ take i bs) ≡ length before + i = omega (arith, length-append before (take i bs), front) in
    let all : length room ≡ length old = ap length h ∙ length_filled (before ++ take i bs) old in
    let place : saturated (a + i) ≡ length (before ++ take i bs) = omega (arith, e, len, m, w) in
    let longer : (before ++ take i bs) ++ get_or bs i 0 ∷ [] ≡ before ++ take (i + 1) bs = append_assoc before (take i bs) (get_or bs i 0 ∷ []) ∙ ap (λ ys. before ++ ys) (sym (take_more bs i 0 l)) in
    grind (arith, filled_more)

pub byte_full : (bs before old room : List ℕ) (i a : ℕ) → a ≡ saturated (length before) → room ≡ filled (before ++ take i bs) old → i < length bs → length room ≤ saturated (a + i) → room ≡ filled (before ++ take (i + 1) bs) old
byte_full bs before old room i a e h l m =
    let front : length (take i bs) ≡ i = omega (arith, length-take i bs, l) in
    let len : length (before ++ take i bs) ≡ length before + i = omega (arith, length-append before (take i bs), front) in
    let all : length room ≡ length old = ap length h ∙ length_filled (before ++ take i bs) old in
    let longer : (before ++ take i bs) ++ get_or bs i 0 ∷ [] ≡ before ++ take (i + 1) bs = append_assoc before (take i bs) (get_or bs i 0 ∷ []) ∙ ap (λ ys. before ++ ys) (sym (take_more bs i 0 l)) in
    h ∙ (filled_full (before ++ take i bs) old (get_or bs i 0) (omega (arith, m, e, len, all)) ∙ ap (λ ys. filled ys old) longer)
