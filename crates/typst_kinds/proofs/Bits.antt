-- The bits of a row of words, and what sets and clears them.
use Rattle.typst_kinds.proofs.Cited.{◌≡◌, ◌≢◌, ℕ, ◌-◌, ◌*◌, ◌/◌, ◌%◌, ◌^◌, ◌<◌, List, length, refl, arith, get_or, set, get_or-set_same, get_or-set_other, bit_or, bit_and, w64, inl, inr, cases_eq, div-add-mod', bit_at_set_same, bit_at_set_other, bit_at_clear_same, bit_at_clear_other, bit_of}

-- a row of words with one bit more
abbrev pub with_bit : List ℕ → ℕ → List ℕ
with_bit ws p = set ws (p / 64) (bit_or (get_or ws (p / 64) 0) (1 * 2 ^ (p % 64) % 2 ^ 64))

-- a row of words with one bit less
abbrev pub without_bit : List ℕ → ℕ → List ℕ
without_bit ws p = set ws (p / 64) (bit_and (get_or ws (p / 64) 0) (2 ^ 64 - 1 - 1 * 2 ^ (p % 64) % 2 ^ 64))

low : (p : ℕ) → p % 64 < 64
low p = omega arith

-- two bits of one word are at two places of it
apart : (p q : ℕ) → q ≢ p → q / 64 ≡ p / 64 → q % 64 ≢ p % 64
apart p q ne word bit = ne (omega (arith, word, bit, div-add-mod' p 64, div-add-mod' q 64))

pub with_bit_same : (ws : List ℕ) (p : ℕ) → p / 64 < length ws → bit_of (with_bit ws p) p ≡ 1
with_bit_same ws p lt = rw get_or-set_same (bit_at_set_same w64 _ _ (low p))

pub without_bit_same : (ws : List ℕ) (p : ℕ) → p / 64 < length ws → bit_of (without_bit ws p) p ≡ 0
without_bit_same ws p lt = rw get_or-set_same (bit_at_clear_same w64 _ _ (low p))

pub with_bit_other : (ws : List ℕ) (p q : ℕ) → p / 64 < length ws → q ≢ p → bit_of (with_bit ws p) q ≡ bit_of ws q
with_bit_other ws p q lt ne =
    elim (cases_eq (q / 64) (p / 64)) [ inl word ↦ (rw word (rw get_or-set_same (bit_at_set_other w64 _ _ (low p) _ (apart p q ne word)))) | inr word ↦ (rw get_or-set_other refl) ]

pub without_bit_other : (ws : List ℕ) (p q : ℕ) → p / 64 < length ws → q ≢ p → bit_of (without_bit ws p) q ≡ bit_of ws q
without_bit_other ws p q lt ne =
    elim (cases_eq (q / 64) (p / 64)) [ inl word ↦ (rw word (rw get_or-set_same (bit_at_clear_other w64 _ _ (low p) _ (low q) (apart p q ne word)))) | inr word ↦ (rw get_or-set_other refl) ]
