-- Facts on the numbers that digits write.
use Rattle.typst_tokens.proofs.Cited.{◌≡◌, ◌≤◌, ◌<◌, ℕ, ◌+◌, ◌*◌, ◌^◌, Bool, true, false, ◌&&◌, if◌then◌else◌, nat_lt, List, [], ◌∷◌, refl, sym, ap, ◌∙◌, arith, Option, Some, None, length, nat_tests, digit_value, list_all, encode_utf8_all, chars, IsUtf8, encodes-chars, Place, place_at, moved, scout, head-splits, number_after, number, with_digit, place-end}
use Rattle.std.specs.Option.{SomeIff}

abbrev pub is_digit : ℕ → ℕ → Bool
is_digit base c = nat_lt (digit_value c) base

-- the number that further digits write after those of n
abbrev pub number_from : ℕ → ℕ → List ℕ → Option ℕ
number_from base n cs = if list_all (is_digit base) cs && nat_lt (number_after base n cs) (2 ^ 64) then Some (number_after base n cs) else None

le-mul : (b n : ℕ) → 1 ≤ b → n ≤ b * n
le-mul b n h = grind arith

number_after-le : (base n : ℕ) (cs : List ℕ) → 1 ≤ base → n ≤ number_after base n cs
unfolding number_after
number_after-le base n [] h = omega arith
number_after-le base n (c ∷ cs) h = omega (arith, number_after-le base (base * n + digit_value c) cs h, le-mul base n h)

not-below : (m n k : ℕ) → m ≤ n → nat_lt m k ≡ false → nat_lt n k ≡ false
not-below m n k le e = grind (arith, nat_tests)

pub number_from-step : (base n c : ℕ) (cs : List ℕ) → 1 ≤ base
    → number_from base n (c ∷ cs) ≡ (if is_digit base c && nat_lt (base * n + digit_value c) (2 ^ 64) then number_from base (base * n + digit_value c) cs else None)
unfolding number_after
number_from-step base n c cs h = grind (arith, not-below, number_after-le)

pub number_from-ahead : (base n c : ℕ) (p : Place) → 1 ≤ base → Some c ≡ scout 0 p
    → number_from base n p.ahead ≡ (if is_digit base c && nat_lt (base * n + digit_value c) (2 ^ 64) then number_from base (base * n + digit_value c) (moved 1 p).ahead else None)
number_from-ahead base n c p h e = let s = head-splits p.ahead c (sym e) in rw s.1 (number_from-step base n c _ h)

pub number_from-end : (base n : ℕ) (p : Place) → n < 2 ^ 64 → None ≡ scout 0 p → number_from base n p.ahead ≡ Some n
unfolding number_after
number_from-end base n p h e = let below : nat_lt n (2 ^ 64) ≡ true = grind (arith, nat_tests) in rw (place-end p e, below) refl

pub number_from-start : (base : ℕ) (text : List ℕ) → number_from base 0 (place_at text 0).ahead ≡ number base (chars text)
unfolding place_at
number_from-start base text = refl

pub with_digit-sum : (base n c : ℕ) (r : Option ℕ) → digit_value c < base → SomeIff r (n * base + digit_value c < 2 ^ 64) (n * base + digit_value c) → r ≡ with_digit base n c
with_digit-sum base n c r l h = grind arith

chosen : (b : Bool) (x m : ℕ) (f : ℕ → Option ℕ) → Some m ≡ (if b then Some x else None) → (if b then f x else None) ≡ f m
chosen true x m f e = let same : x ≡ m = cc in ap f same
chosen false x m f e = absurd (cc)

refused : (b : Bool) (x : ℕ) (f : ℕ → Option ℕ) → None ≡ (if b then Some x else None) → (if b then f x else None) ≡ None
refused true x f e = absurd (cc)
refused false x f e = refl

-- the next character is a digit more, or ends it
pub number_from-more : (base n m c : ℕ) (p : Place) → 1 ≤ base → Some c ≡ scout 0 p → Some m ≡ with_digit base n c → number_from base n p.ahead ≡ number_from base m (moved 1 p).ahead
number_from-more base n m c p h e w = number_from-ahead base n c p h e ∙ chosen _ _ m (λ x. number_from base x (moved 1 p).ahead) w

pub number_from-none : (base n c : ℕ) (p : Place) → 1 ≤ base → Some c ≡ scout 0 p → None ≡ with_digit base n c → number_from base n p.ahead ≡ None
number_from-none base n c p h e w = number_from-ahead base n c p h e ∙ refused _ _ (λ x. number_from base x (moved 1 p).ahead) w

fits-of : (a : Bool) (x m : ℕ) → Some m ≡ (if a && nat_lt x (2 ^ 64) then Some x else None) → m < 2 ^ 64
fits-of false x m e = absurd (cc)
fits-of true x m e = grind arith

pub with_digit-fits : (base n m c : ℕ) → Some m ≡ with_digit base n c → m < 2 ^ 64
with_digit-fits base n m c e = fits-of (is_digit base c) (base * n + digit_value c) m e

-- a text with bytes has characters
pub some-chars : (text : List ℕ) → IsUtf8 text → 0 < length text → nat_lt 0 (length (chars text)) ≡ true
some-chars text u some = some-of (chars text) text (encodes-chars text u) some
  where
    some-of : (cs bs : List ℕ) → encode_utf8_all cs ≡ bs → 0 < length bs → nat_lt 0 (length cs) ≡ true
    some-of [] bs e some = absurd (let none : length bs ≡ 0 = ap length (sym e) in omega arith)
    some-of (c ∷ cs) bs e some = grind (arith, nat_tests)

pub no-chars : (text : List ℕ) → length text ≡ 0 → length (chars text) ≡ 0
unfolding chars
no-chars text e = grind arith
