-- Places, and the ends of lists.
use Rattle.typst_language.proofs.Cited.{◌≡◌, ℕ, zero, suc, ◌+◌, ◌-◌, ◌≤◌, min, List, [], ◌∷◌, ◌++◌, length, take, drop, length-append, length-take, length-drop, append-nil, refl, ap, sym, ◌∙◌, arith, take_min, Place, moved, moved_from, less, take-length, drop-nil}
pub use Rattle.typst_lexer.proofs.Moves.{moved-ahead}

pub at-end : (n : ℕ) (b : List ℕ) → moved_from n b [] ≡ record { before = b; ahead = [] }
at-end n b = grind arith

sum-from : (m n : ℕ) (b a : List ℕ) → moved_from (m + n) b a ≡ moved n (moved_from m b a)
sum-from zero n b a = let e : 0 + n ≡ n = omega arith in rw e refl
sum-from (suc m) n b [] = let e : suc m + n ≡ suc (m + n) = omega arith in rw e (sym (at-end n b))
sum-from (suc m) n b (c ∷ a) = let e : suc m + n ≡ suc (m + n) = omega arith in rw e (sum-from m n (c ∷ b) a)

pub moved-sum : (m n : ℕ) (z : Place) → moved (m + n) z ≡ moved n (moved m z)
moved-sum m n z = sum-from m n z.before z.ahead

min-from : (n : ℕ) (b a : List ℕ) → moved_from (min n (length a)) b a ≡ moved_from n b a
min-from n b [] = let e : min n 0 ≡ 0 = omega arith in rw e (sym (at-end n b))
min-from zero b (c ∷ a) = let e : min 0 (suc (length a)) ≡ 0 = omega arith in rw e refl
min-from (suc n) b (c ∷ a) = let e : min (suc n) (suc (length a)) ≡ suc (min n (length a)) = omega arith in rw e (min-from n (c ∷ b) a)

-- after the end is the end
pub moved-min : (n : ℕ) (z : Place) → moved (min n (length z.ahead)) z ≡ moved n z
moved-min n z = min-from n z.before z.ahead

pub ahead-left : (n : ℕ) (z : Place) → length (moved n z).ahead ≡ length z.ahead - n
ahead-left n z = ap length (moved-ahead n z) ∙ length-drop n z.ahead

before-from : (n : ℕ) (b a : List ℕ) → n ≤ length a → length (moved_from n b a).before ≡ length b + n
before-from zero b a h = omega arith
before-from (suc n) b [] h = absurd (omega arith)
before-from (suc n) b (c ∷ a) h = let l : n ≤ length a = omega arith in omega (arith, before-from n (c ∷ b) a l)

pub moved-before : (n : ℕ) (z : Place) → n ≤ length z.ahead → length (moved n z).before ≡ length z.before + n
moved-before n z h = before-from n z.before z.ahead h

-- ---- lists without their ends

pub take-both : {A : Type 0} (k : ℕ) (xs ys : List A) → take k (xs ++ ys) ≡ take k xs ++ take (k - length xs) ys
take-both zero xs ys = let e : 0 - length xs ≡ 0 = omega arith in rw e refl
take-both (suc k) [] ys = let e : suc k - 0 ≡ suc k = omega arith in rw e refl
take-both (suc k) (x ∷ xs) ys = let e : suc k - suc (length xs) ≡ k - length xs = omega arith in rw e (ap (λ l. x ∷ l) (take-both k xs ys))

pub drop-both : {A : Type 0} (k : ℕ) (xs ys : List A) → drop k (xs ++ ys) ≡ drop k xs ++ drop (k - length xs) ys
drop-both zero xs ys = let e : 0 - length xs ≡ 0 = omega arith in rw e refl
drop-both (suc k) [] ys = let e : suc k - 0 ≡ suc k = omega arith in rw e refl
drop-both (suc k) (x ∷ xs) ys = let e : suc k - suc (length xs) ≡ k - length xs = omega arith in rw e (drop-both k xs ys)

take-twice : {A : Type 0} (j k : ℕ) (xs : List A) → take j (take k xs) ≡ take (min j k) xs
take-twice zero k xs = let e : min 0 k ≡ 0 = omega arith in rw e refl
take-twice (suc j) zero xs = let e : min (suc j) 0 ≡ 0 = omega arith in rw e refl
take-twice (suc j) (suc k) [] = let e : min (suc j) (suc k) ≡ suc (min j k) = omega arith in rw e refl
take-twice (suc j) (suc k) (x ∷ xs) = let e : min (suc j) (suc k) ≡ suc (min j k) = omega arith in rw e (ap (λ l. x ∷ l) (take-twice j k xs))

take-alike : {A : Type 0} (j k : ℕ) (xs : List A) → min j (length xs) ≡ min k (length xs) → take j xs ≡ take k xs
take-alike j k xs e = sym (take_min j xs) ∙ ap (λ n. take n xs) e ∙ take_min k xs

pub take-all : {A : Type 0} (k : ℕ) (xs : List A) → length xs ≤ k → take k xs ≡ xs
take-all k xs h = let e : min k (length xs) ≡ length xs = omega arith in sym (take_min k xs) ∙ ap (λ n. take n xs) e ∙ take-length xs

pub drop-all : {A : Type 0} (k : ℕ) (xs : List A) → length xs ≤ k → drop k xs ≡ []
drop-all k [] h = drop-nil k
drop-all zero (x ∷ xs) h = absurd (omega arith)
drop-all (suc k) (x ∷ xs) h = let l : length xs ≤ k = omega arith in drop-all k xs l

pub less-append : {A : Type 0} (n : ℕ) (xs ys : List A) → less n (xs ++ ys) ≡ less (n - length ys) xs ++ less n ys
unfolding less
less-append n xs ys = grind (arith, length-append, take-both, take-alike)

pub less-twice : {A : Type 0} (m n : ℕ) (xs : List A) → less n (less m xs) ≡ less (m + n) xs
unfolding less
less-twice m n xs = grind (arith, length-take, take-twice)

pub less-none : {A : Type 0} (xs : List A) → less 0 xs ≡ xs
unfolding less
less-none xs = let e : length xs - 0 ≡ length xs = omega arith in rw (e, take-length) refl

pub length-less : {A : Type 0} (n : ℕ) (xs : List A) → length (less n xs) ≡ length xs - n
unfolding less
length-less n xs = omega (arith, length-take (length xs - n) xs)

pub no-end : {A : Type 0} (xs : List A) → xs ≡ less 0 xs ++ []
no-end xs = sym (append-nil (less 0 xs) ∙ less-none xs)
