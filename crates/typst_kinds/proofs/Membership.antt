-- What a set contains after its bits were changed.
use Rattle.typst_kinds.proofs.Cited.{arith, max, bit_or, get_or, ◌≡◌, ◌≢◌, ℕ, ◌/◌, ◌%◌, ◌<◌, ◌==◌, ◌||◌, true, false, List, [], ◌∷◌, length, ap, eq-eqb, bit_at_or, bit_at-lt, bit_at, has, place_of, SyntaxKind}
use Rattle.typst_kinds.proofs.Sameness.{same-is}
use Rattle.typst_kinds.proofs.Bits.{with_bit, without_bit, with_bit_same, without_bit_same, with_bit_other, without_bit_other}

-- two kinds have two places
places_apart : (a b : SyntaxKind) → a ≢ b → place_of a ≢ place_of b
unfolding place_of
places_apart a b ne e = ne (same-is b a (eq-eqb _ _ e))

pub added : (ws : List ℕ) (k : SyntaxKind) → place_of k / 64 < length ws → has (record { words = with_bit ws (place_of k) }) k ≡ true
unfolding has
added ws k lt = ap (λ n. n == 1) (with_bit_same ws (place_of k) lt)

pub removed : (ws : List ℕ) (k : SyntaxKind) → place_of k / 64 < length ws → has (record { words = without_bit ws (place_of k) }) k ≡ false
unfolding has
removed ws k lt = ap (λ n. n == 1) (without_bit_same ws (place_of k) lt)

pub added_other : (ws : List ℕ) (k : SyntaxKind) → place_of k / 64 < length ws → (other : SyntaxKind) → other ≢ k → has (record { words = with_bit ws (place_of k) }) other ≡ has (record { words = ws }) other
unfolding has
added_other ws k lt other ne = ap (λ n. n == 1) (with_bit_other ws (place_of k) (place_of other) lt (places_apart other k ne))

pub removed_other : (ws : List ℕ) (k : SyntaxKind) → place_of k / 64 < length ws → (other : SyntaxKind) → other ≢ k → has (record { words = without_bit ws (place_of k) }) other ≡ has (record { words = ws }) other
unfolding has
removed_other ws k lt other ne = ap (λ n. n == 1) (without_bit_other ws (place_of k) (place_of other) lt (places_apart other k ne))

-- the set of no words set has no kind
pub empty : (k : SyntaxKind) → has (record { words = 0 ∷ 0 ∷ 0 ∷ [] }) k ≡ false
unfolding has place_of
empty k = grind arith

-- the greater of two bits is 1 where one of them is
max_one : (m n : ℕ) → m < 2 → n < 2 → (max m n == 1) ≡ ((m == 1) || (n == 1))
max_one m n p q = grind arith

either_bit : (a b i : ℕ) → (bit_at (bit_or a b) i == 1) ≡ ((bit_at a i == 1) || (bit_at b i == 1))
either_bit a b i = rw bit_at_or (max_one (bit_at a i) (bit_at b i) (bit_at-lt a i) (bit_at-lt b i))

-- the words of two sets, each with the bits of both
abbrev pub joined_words : List ℕ → List ℕ → List ℕ
joined_words xs ys =
    bit_or (get_or xs 0 0) (get_or ys 0 0) ∷ bit_or (get_or xs 1 0) (get_or ys 1 0) ∷ bit_or (get_or xs 2 0) (get_or ys 2 0) ∷ []

joined_word : (xs ys : List ℕ) (i : ℕ) → i < 3 → get_or (joined_words xs ys) i 0 ≡ bit_or (get_or xs i 0) (get_or ys i 0)
joined_word xs ys i lt = grind arith

third : (k : SyntaxKind) → place_of k / 64 < 3
unfolding place_of
third k = grind arith

pub united : (xs ys : List ℕ) (k : SyntaxKind) → has (record { words = joined_words xs ys }) k ≡ (has (record { words = xs }) k || has (record { words = ys }) k)
unfolding has
united xs ys k = rw (joined_word xs ys (place_of k / 64) (third k)) (either_bit (get_or xs (place_of k / 64) 0) (get_or ys (place_of k / 64) 0) (place_of k % 64))
