-- What is found in bytes that are looked at many at a time (for private clauses).
use Rattle.std.specs.Prelude.{◌≡◌, ◌≢◌, ℕ, ◌+◌, ◌-◌, ◌<◌, ◌≤◌, Bool, true, false, not, ◌&&◌, ◌||◌, ◌==◌, if◌then◌else◌, nat_le, nat_lt, List, length, take, drop, slice_index, slice_range}
use Rattle.std.specs.Int.{w64, trailing_zeros}
use Rattle.std.specs.Str.{IsCharBoundary}
use Rattle.typst_lines.specs.Newline.{is_newline}

-- two lists begin with the same n elements; where both go on for a block more, those blocks differ
pub record BeginAlike (xs ys : List ℕ) (block n : ℕ) : Type 0 where
  pub in_first : n ≤ length xs
  pub in_second : n ≤ length ys
  pub same : take n xs ≡ take n ys
  pub stops : n + block ≤ length xs → n + block ≤ length ys → slice_range xs n (n + block) ≢ slice_range ys n (n + block)

-- two lists end with the same n elements; where both have a block more before them, those blocks differ
pub record EndAlike (xs ys : List ℕ) (block n : ℕ) : Type 0 where
  pub in_first : n ≤ length xs
  pub in_second : n ≤ length ys
  pub same : drop (length xs - n) xs ≡ drop (length ys - n) ys
  pub stops : n + block ≤ length xs → n + block ≤ length ys
      → slice_range xs (length xs - n - block) (length xs - n) ≢ slice_range ys (length ys - n - block) (length ys - n)

-- two texts are the same up to a byte, which is on a character boundary of both
pub record IsSharedFront (old new : List ℕ) (n : ℕ) : Type 0 where
  pub old_boundary : IsCharBoundary old n
  pub new_boundary : IsCharBoundary new n
  pub same : take n old ≡ take n new

-- the last n bytes of two texts are the same, and begin on a character boundary of both
pub record IsSharedEnd (old new : List ℕ) (n : ℕ) : Type 0 where
  pub in_old : n ≤ length old
  pub in_new : n ≤ length new
  pub old_boundary : IsCharBoundary old (length old - n)
  pub new_boundary : IsCharBoundary new (length new - n)
  pub same : drop (length old - n) old ≡ drop (length new - n) new

-- an ASCII character that isn't a newline character
abbrev pub is_plain_byte : ℕ → Bool
is_plain_byte b = nat_lt b 128 && not (is_newline b)

-- of the n bytes from one on, so many are plain before the first that isn't
pub record IsPlainFront (bytes : List ℕ) (at n run : ℕ) : Type 0 where
  pub within : run ≤ n
  pub plain : (k : ℕ) → at ≤ k → k < at + run → is_plain_byte (slice_index bytes k) ≡ true
  pub stops : run < n → is_plain_byte (slice_index bytes (at + run)) ≡ false

-- the place of the lowest bit that is set, or n if none is
abbrev pub first_set : ℕ → ℕ → ℕ
first_set mask n = if mask == 0 then n else trailing_zeros w64 mask

-- how many characters begin with a byte of UTF-8: one, but none with a byte that goes on with a character
abbrev pub chars_begun : ℕ → ℕ
chars_begun b = if nat_lt b 128 || nat_le 192 b then 1 else 0

-- how many UTF-16 units begin with a byte of UTF-8: as many as characters, and two with the first of four bytes
abbrev pub units_begun : ℕ → ℕ
units_begun b = chars_begun b + (if nat_le 240 b then 1 else 0)

-- a weight of bytes that is 0 at those that go on with a character
pub record IsOfFirst (weight : ℕ → ℕ) : Type 0 where
  pub nothing : (b : ℕ) → 128 ≤ b → b < 192 → weight b ≡ 0
