-- Runs of characters that pass by the one that follows them.
use Rattle.std.specs.Prelude.{ℕ, suc, Bool, false, ◌||◌, ◌&&◌, if◌then◌else◌, ◌+◌, List, [], ◌∷◌, slice_get, slice_index, Option, Some, None}
use Rattle.std.specs.Char.{is_ascii}
use Rattle.typst_lines.specs.Place.{Place, moved}
use Rattle.typst_tokens.specs.Sight.{Sight, saw, went}

-- a character passes by itself, or by the one that follows it
abbrev pub either : (ℕ → Bool) → (ℕ → Option ℕ → Bool) → ℕ → Option ℕ → Bool
either alone pairs c next = alone c || pairs c next

-- whether two bytes are of ASCII, and the first passes before the second
abbrev pub bytes_pass : (ℕ → Option ℕ → Bool) → ℕ → ℕ → Bool
bytes_pass test c next = is_ascii c && (is_ascii next && test c (Some next))

-- whether each of four bytes passes before the byte after it
abbrev pub four_pass : (ℕ → Option ℕ → Bool) → List ℕ → ℕ → Bool
four_pass test bytes at =
    let passes : ℕ → ℕ → Bool = λ i j. bytes_pass test (slice_index bytes i) (slice_index bytes j) in
    passes at (at + 1) && (passes (at + 1) (at + 2) && (passes (at + 2) (at + 3) && passes (at + 3) (at + 4)))

-- whether there is a character, and it passes by the one that follows it
abbrev pub pair_passes : (ℕ → Option ℕ → Bool) → Option ℕ → Option ℕ → Bool
pair_passes test None next = false
pair_passes test (Some c) next = test c next

-- how many characters at the front pass, each with the one that follows it
abbrev pub pairs_len : (ℕ → Option ℕ → Bool) → List ℕ → ℕ
pairs_len test [] = 0
pairs_len test (c ∷ cs) = if test c (slice_get cs 0) then suc (pairs_len test cs) else 0

-- the place after the longest run of such characters
abbrev pub past_pairs : (ℕ → Option ℕ → Bool) → Place → Place
past_pairs test z = moved (pairs_len test z.ahead) z

-- a run of such characters and what ends it were looked at, and the run was eaten
abbrev pub went_past_pairs : (ℕ → Option ℕ → Bool) → Sight → Sight
went_past_pairs test v = let n = pairs_len test v.place.ahead in went n (saw (suc n) v)
