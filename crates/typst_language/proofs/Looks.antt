-- What shows the same where it was looked at.
use Rattle.typst_language.proofs.Cited.{◌≡◌, ℕ, zero, suc, ◌+◌, ◌-◌, ◌<◌, ◌≤◌, min, Bool, true, false, if◌then◌else◌, not, List, [], ◌∷◌, ◌++◌, length, take, slice_get, refl, arith, Token, Memory, Ask, SameOne, SameIn, shift, shift_one, sunk, only_looks, token_by, len_by, column_at}
use Rattle.std.specs.List.{prefix_len}
use Rattle.typst_lines.specs.Newline.{is_newline}
use Rattle.typst_lines.specs.Place.{Place, moved, scout, run, past}
use Rattle.typst_tokens.specs.Reader.{Reader, eaten, Look, look, marked, Agree, spanned, from_before, skip_look}
use Rattle.typst_tokens.specs.Reader.Reader.{answer, peek, glance, span, eat, see_run, skip, eat_run}
use Rattle.typst_tokens.proofs.Frame.{frame, take-shorter}
use Rattle.typst_language.specs.Ask.Ask.{looked, marked as unit}
use Rattle.typst_language.proofs.Places.{moved-sum, ahead-left}

-- ---- lists

-- what is marked the same is the same
pub take-unmarked : (n : ℕ) (xs ys : List ℕ) → take n (marked xs) ≡ take n (marked ys) → take n xs ≡ take n ys
take-unmarked zero xs ys e = refl
take-unmarked (suc n) [] [] e = refl
take-unmarked (suc n) [] (y ∷ ys) e = absurd (cc)
take-unmarked (suc n) (x ∷ xs) [] e = absurd (cc)
take-unmarked (suc n) (x ∷ xs) (y ∷ ys) e =
    let tails : take n (marked xs) ≡ take n (marked ys) = cc in
    let rest = take-unmarked n xs ys tails in
    cc

-- a stretch that shows the end of one shows that of the other
pub marked-length : (n : ℕ) (xs ys : List ℕ) → length xs < n → take n (marked xs) ≡ take n (marked ys) → length ys ≡ length xs
marked-length zero xs ys h e = absurd (omega arith)
marked-length (suc n) [] [] h e = refl
marked-length (suc n) [] (y ∷ ys) h e = absurd (cc)
marked-length (suc n) (x ∷ xs) [] h e = absurd (cc)
marked-length (suc n) (x ∷ xs) (y ∷ ys) h e =
    let tails : take n (marked xs) ≡ take n (marked ys) = cc in
    omega (arith, marked-length n xs ys (omega arith) tails)

run-at : (p : ℕ → Bool) (b : Bool) (x y : ℕ) (xs ys : List ℕ)
    → (take (suc (prefix_len p xs)) (marked xs) ≡ take (suc (prefix_len p xs)) (marked ys) → prefix_len p ys ≡ prefix_len p xs)
    → take (suc (if b then 1 + prefix_len p xs else 0)) (marked (x ∷ xs)) ≡ take (suc (if b then 1 + prefix_len p xs else 0)) (marked (y ∷ ys))
    → (if b then 1 + prefix_len p ys else 0) ≡ (if b then 1 + prefix_len p xs else 0)
run-at p true x y xs ys below e = grind arith
run-at p false x y xs ys below e = refl

-- a run is determined by its characters and what ends it
pub run-same : (p : ℕ → Bool) (xs ys : List ℕ) → take (suc (prefix_len p xs)) (marked xs) ≡ take (suc (prefix_len p xs)) (marked ys) → prefix_len p ys ≡ prefix_len p xs
run-same p [] [] e = refl
run-same p [] (y ∷ ys) e = absurd (cc)
run-same p (x ∷ xs) [] e = absurd (cc)
run-same p (x ∷ xs) (y ∷ ys) e =
    let first : y ≡ x = cc in
    rw first (run-at p (p x) x y xs ys (run-same p xs ys) e)

-- ---- what was asked

pub same_one-shift : (n : ℕ) (ask : Ask) (z w : Place) → SameOne (shift_one n ask) z w → SameOne ask (moved n z) (moved n w)
same_one-shift n ask z w h = grind (arith, moved-sum)

pub same_in-shift : (n : ℕ) (asks : List Ask) (z w : Place) → SameIn (shift n asks) z w → SameIn asks (moved n z) (moved n w)
same_in-shift n [] z w h = tt
same_in-shift n (ask ∷ asks) z w h = (same_one-shift n ask z w h.0, same_in-shift n asks z w h.1)

pub same_in-first : (ls ms : List Ask) (z w : Place) → SameIn (ls ++ ms) z w → SameIn ls z w
same_in-first [] ms z w h = tt
same_in-first (l ∷ ls) ms z w h = (h.0, same_in-first ls ms z w h.1)

pub same_in-second : (ls ms : List Ask) (z w : Place) → SameIn (ls ++ ms) z w → SameIn ms z w
same_in-second [] ms z w h = h
same_in-second (l ∷ ls) ms z w h = same_in-second ls ms z w h.1

pub same_in-only : (asks : List Ask) (z w : Place) → SameIn (only_looks asks) z w → SameIn asks z w
same_in-only [] z w h = tt
same_in-only (looked at l ∷ asks) z w h = (h.0, same_in-only asks z w h.1)
same_in-only (unit at gap fewer mark s ∷ asks) z w h = (tt, same_in-only asks z w h)

pub same_in-sunk : (asks : List Ask) (z w : Place) → SameIn (sunk asks) z w → SameIn asks z w
same_in-sunk [] z w h = tt
same_in-sunk (looked at l ∷ asks) z w h = (h.0, same_in-sunk asks z w h.1)
same_in-sunk (unit at gap fewer mark s ∷ asks) z w h = (tt, same_in-sunk asks z w h.1)

-- ---- a token

eat-covers : (e : ℕ) (l : Look) (a : List ℕ) → min e (suc (length a - 1)) ≤ l.front → min (suc e) (suc (length a)) ≤ (from_before a l).front
eat-covers e l a h = grind arith

skip-covers : (n e : ℕ) (l : Look) (a : List ℕ) → min e (suc (length a - n)) ≤ l.front → min (min n (length a) + e) (suc (length a)) ≤ (skip_look n a l).front
skip-covers zero e l a h = omega (arith, h)
skip-covers (suc n) e l [] h = omega arith
skip-covers (suc n) e l (c ∷ a) h =
    let k : min e (suc (length a - n)) ≤ l.front = omega (arith, h) in
    omega (arith, skip-covers n e l a k)

-- what is eaten was looked at
pub front-covers : {M A : Type 0} (r : Reader M A) (p : Place) → min (eaten r p) (suc (length p.ahead)) ≤ (look r p).front
front-covers (answer a) p = omega arith
front-covers (peek n k) p = omega (arith, front-covers (k (scout n p)) p)
front-covers (glance n k) p = omega (arith, front-covers (k (slice_get p.before n)) p)
front-covers (span m state k) p = let r = spanned m state p.before p.ahead in omega (arith, front-covers (k r.0 r.1) p)
front-covers (eat r) p =
    eat-covers (eaten r (moved 1 p)) (look r (moved 1 p)) p.ahead (omega (arith, ahead-left 1 p, front-covers r (moved 1 p)))
front-covers (skip n r) p =
    skip-covers n (eaten r (moved n p)) (look r (moved n p)) p.ahead (omega (arith, ahead-left n p, front-covers r (moved n p)))
front-covers (eat_run test k) p =
    omega (arith, ahead-left (prefix_len test p.ahead) p, front-covers (k (run test p)) (past test p))
front-covers (see_run test k) p = omega (arith, front-covers (k (run test p)) p)

lengths-same : (e a b f : ℕ) → (a < f → b ≡ a) → (b < f → a ≡ b) → min e (suc a) ≤ f → min e (suc b) ≤ f → min e b ≡ min e a
lengths-same e a b f g h c d = grind arith

pub len-covers : (r : Reader Memory Token) (z : Place) → len_by r z ≤ (look r z).front
len-covers r z = omega (arith, front-covers r z)

-- what is read of a token
pub record SameToken (r : Reader Memory Token) (z w : Place) : Type 0 where
  pub read : token_by r w ≡ token_by r z
  pub len : len_by r w ≡ len_by r z
  pub seen : look r w ≡ look r z
  pub text : take (len_by r z) w.ahead ≡ take (len_by r z) z.ahead

pub token-same : (r : Reader Memory Token) (z w : Place) → Agree (look r z) z w → SameToken r z w
token-same r z w g = let s = frame r z w g in grind (arith, front-covers, lengths-same, marked-length, take-unmarked, take-shorter, len-covers)

-- ---- columns

pub column-same : (z w : Place) → Agree (record { back = suc (column_at z); front = 0 }) z w → column_at w ≡ column_at z
unfolding column_at
column-same z w g = run-same (λ c. not (is_newline c)) z.before w.before g.before
