-- Surrogates that a JSON text writes by escapes, and a text whose lone ones are U+FFFD.
use Rattle.std.specs.Prelude.{ℕ, List, [], ◌∷◌, ◌++◌, codes, slice_index, length, Bool, false, not, nat_le, ◌&&◌, ◌||◌, ◌==◌, if◌then◌else◌, Option, None, Some}
use Rattle.std.specs.Char.{digit_value, is_digit}
use Rattle.std.specs.Option.{option_map_or}
use Rattle.json.specs.Ascii.{backslash, lower_u}
use Rattle.json.specs.Text.{code_unit, is_high_surrogate, is_low_surrogate}

-- the number that a hexadecimal digit writes
abbrev pub hexadecimal : ℕ → Option ℕ
hexadecimal c = if is_digit c 16 then Some (digit_value c) else None

-- the code unit whose escape a text begins with: `\u` and four hexadecimal digits
unfoldable pub unit : List ℕ → Option ℕ
unit text =
    if nat_le 6 (length text) && (slice_index text 0 == backslash) && (slice_index text 1 == lower_u) then code_unit (slice_index text 2) (slice_index text 3) (slice_index text 4) (slice_index text 5)
    else None

-- whether a text begins with a low surrogate
abbrev pub begins_low : List ℕ → Bool
begins_low text = option_map_or is_low_surrogate (unit text) false

-- a high surrogate and a low one directly after it are one character; any other surrogate is lone
abbrev pub is_lone : Bool → ℕ → Bool → Bool
is_lone behind_high u before_low = (is_high_surrogate u && not before_low) || (is_low_surrogate u && not behind_high)

-- the escape of U+FFFD
abbrev pub replacement : List ℕ
replacement = codes "\\ufffd"

-- what the escape of a code unit is read as
abbrev pub read_as : Bool → List ℕ → List ℕ
read_as lone escape = if lone then replacement else escape

-- a text whose lone surrogates are U+FFFD; the first one may stand after a high one. Where no escape of a code unit begins, a backslash
-- goes with the byte after it. Fewer than six bytes have no such escape
unfoldable pub mended_behind : Bool → List ℕ → List ℕ
mended_behind behind_high (a ∷ b ∷ c ∷ d ∷ e ∷ f ∷ rest) =
    option_map_or (λ u. read_as (is_lone behind_high u (begins_low rest)) (a ∷ b ∷ c ∷ d ∷ e ∷ f ∷ []) ++ mended_behind (is_high_surrogate u) rest)
    (unit (a ∷ b ∷ c ∷ d ∷ e ∷ f ∷ rest))
    (if a == backslash then a ∷ b ∷ mended_behind false (c ∷ d ∷ e ∷ f ∷ rest) else a ∷ mended_behind false (b ∷ c ∷ d ∷ e ∷ f ∷ rest))
mended_behind behind_high text = text

-- the text that a body is read as
abbrev pub mended : List ℕ → List ℕ
mended body = mended_behind false body
