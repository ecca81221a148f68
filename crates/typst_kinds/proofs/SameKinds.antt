-- Two sets have the same kinds exactly where they have the same words, except the bits of the last word that stand for no kind.
use Rattle.typst_kinds.proofs.Cited.{◌≡◌, ℕ, ◌+◌, ◌*◌, ◌/◌, ◌%◌, ◌^◌, ◌<◌, ◌==◌, ◌↔◌, Bool, List, [], ◌∷◌, true, get_or, refl, sym, ◌∙◌, ap, arith, lit<, div-add-mod', bit_at_cat_low, same_from_bits_below, bytes_decides, bit_at, bit_of, has, kind_words, place_of, same_kinds, SyntaxKind}
use Rattle.typst_kinds.specs.declared.set.SyntaxSet.{SyntaxSet}
use Rattle.typst_kinds.proofs.Places.{placed, kind_with}

-- the first nine bits of a number are those of what is left of it at nine bits
low_bit : (n i : ℕ) → i < 9 → bit_at n i ≡ bit_at (n % 2 ^ 9) i
low_bit n i lt = ap (λ m. bit_at m i) (sym (div-add-mod' n (2 ^ 9))) ∙ bit_at_cat_low (n / 2 ^ 9) 9 (n % 2 ^ 9) i lt

-- two rows of three words that have the same words, except what stands for no kind in the last
module _ (xs ys : List ℕ) (first : get_or xs 0 0 ≡ get_or ys 0 0) (second : get_or xs 1 0 ≡ get_or ys 1 0) (third : get_or xs 2 0 % 2 ^ 9 ≡ get_or ys 2 0 % 2 ^ 9) where
  -- they have the same bits of each kind, by word and bit of the word
  bit_within : (w i : ℕ) → w * 64 + i < 137 → bit_at (get_or xs w 0) i ≡ bit_at (get_or ys w 0) i
  bit_within w i lt = grind (arith, low_bit)

  same_bits : (p : ℕ) → p < 137 → bit_of xs p ≡ bit_of ys p
  same_bits p lt = bit_within (p / 64) (p % 64) (omega (arith, lt, div-add-mod' p 64))

-- two rows of words that have the same bits of each kind
module _ (xs ys : List ℕ) (same : (p : ℕ) → p < 137 → bit_of xs p ≡ bit_of ys p) where
  -- their words have the same bits
  bit_from : (w i : ℕ) → i < 64 → w * 64 + i < 137 → bit_at (get_or xs w 0) i ≡ bit_at (get_or ys w 0) i
  bit_from w i lt within = let word : (w * 64 + i) / 64 ≡ w = omega (arith, div-add-mod' (w * 64 + i) 64) in grind arith

  word_from : (w : ℕ) → w < 2 → get_or xs w 0 < 2 ^ 64 → get_or ys w 0 < 2 ^ 64 → get_or xs w 0 ≡ get_or ys w 0
  word_from w lt p q = same_from_bits_below 64 _ _ p q (λ i below. bit_from w i below (omega (arith, lt, below)))

  last_from : get_or xs 2 0 % 2 ^ 9 ≡ get_or ys 2 0 % 2 ^ 9
  last_from = same_from_bits_below 9 _ _ (omega arith) (omega arith) (λ i below. sym (low_bit _ i below) ∙ bit_from 2 i (omega (arith, below)) (omega (arith, below)) ∙ low_bit _ i below)

-- sets whose words are the same have the same kinds
same_kinds-has : (a b : SyntaxSet) → same_kinds a b ≡ true → (k : SyntaxKind) → has a k ≡ has b k
unfolding has
same_kinds-has a b e k =
    let same = (bytes_decides (kind_words a) (kind_words b)).0 e in
    let word : (i : ℕ) → get_or (kind_words a) i 0 ≡ get_or (kind_words b) i 0 = λ i. ap (λ (ws : List ℕ). get_or ws i 0) same in
    ap (λ n. n == 1) (same_bits a.words b.words (word 0) (word 1) (word 2) (place_of k) (placed k))

-- sets that have the same kinds have the same bits of each kind
bits_from : (a b : SyntaxSet) → ((k : SyntaxKind) → has a k ≡ has b k) → (p : ℕ) → p < 137 → bit_of a.words p ≡ bit_of b.words p
unfolding has
bits_from a b same p lt = let P : ℕ → Type 0 = λ place. bit_of a.words place ≡ bit_of b.words place in grind (arith, kind_with p lt)

three_words : (x y z u v w : ℕ) → x ≡ u → y ≡ v → z ≡ w → ◌≡◌ {A = List ℕ} (x ∷ y ∷ z ∷ []) (u ∷ v ∷ w ∷ [])
three_words x y z u v w e f g = rw (e, f, g) refl

-- the words of a set are of 64 bits
pub record IsOfWords (a : SyntaxSet) : Type 0 where
  pub first : get_or a.words 0 0 < 2 ^ 64
  pub second : get_or a.words 1 0 < 2 ^ 64

-- sets that have the same kinds have the same words
has-same_kinds : (a b : SyntaxSet) → IsOfWords a → IsOfWords b → ((k : SyntaxKind) → has a k ≡ has b k) → same_kinds a b ≡ true
has-same_kinds a b p q same =
    let bits = bits_from a b same in
    let first = word_from a.words b.words bits 0 (lit< tt) p.first q.first in
    let second = word_from a.words b.words bits 1 (lit< tt) p.second q.second in
    (bytes_decides (kind_words a) (kind_words b)).1 (three_words _ _ _ _ _ _ first second (last_from a.words b.words bits))

-- a test of the words is a test of the kinds
pub same_kinds-exact : (a b : SyntaxSet) (r : Bool) → IsOfWords a → IsOfWords b → r ≡ same_kinds a b → (r ≡ true) ↔ ((k : SyntaxKind) → has a k ≡ has b k)
same_kinds-exact a b r p q is = (λ e. same_kinds-has a b (sym is ∙ e), λ same. is ∙ has-same_kinds a b p q same)
