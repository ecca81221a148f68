-- THE NAMES OF MODULES in the texts of imports: of a file its name without the extension, of a package
-- that before its version.
use Rattle.std.specs.Prelude.{ℕ, ◌+◌, ◌-◌, ◌==◌, ◌&&◌, ◌||◌, not, Bool, true, false, List, [], ◌∷◌, length, drop, slice_range, Option, None, Some, is_some, option_and_then, unwrap_or, if◌then◌else◌}
use Rattle.std.specs.Char.{is_ascii, is_ascii_alphabetic, is_ascii_digit}
use Rattle.std.specs.Option.{option_or}
use Rattle.std.specs.declared.ops.Range.{Range}

-- ---- identifiers

-- an identifier may begin with a byte: of a letter, `_` (95), or of a character past ASCII
abbrev pub begins : ℕ → Bool
begins c = is_ascii_alphabetic c || (c == 95 || not (is_ascii c))

-- and go on with it: also with a digit or `-` (45)
abbrev pub goes_on : ℕ → Bool
goes_on c = begins c || (is_ascii_digit c || c == 45)

-- and with some bytes
abbrev pub all_go_on : List ℕ → Bool
all_go_on [] = true
all_go_on (c ∷ cs) = goes_on c && all_go_on cs

-- bytes are an identifier, as far as these tests tell
abbrev pub is_identifier : List ℕ → Bool
is_identifier [] = false
is_identifier (c ∷ cs) = begins c && all_go_on cs

-- ---- where the name stands

-- the place of the last byte c among some, of which the first has the place i
abbrev pub last_place : ℕ → ℕ → List ℕ → Option ℕ
last_place c i [] = None
last_place c i (x ∷ xs) = option_or (last_place c (i + 1) xs) (if x == c then Some i else None)

-- and from the place i on
abbrev pub last_from : ℕ → ℕ → List ℕ → Option ℕ
last_from c i text = last_place c i (drop i text)

-- a text in quotes is that of a package: it begins with `@` (64)
abbrev pub is_package : List ℕ → Bool
is_package (quote ∷ c ∷ cs) = c == 64
is_package _ = false

-- the name begins after the last `/` (47), or after the quote
abbrev pub start_in : List ℕ → ℕ
start_in text = unwrap_or (last_from 47 0 text) 0 + 1

-- it ends at the extension, from the last `.` (46) on, or at the quote; that of a package at the
-- last `:` (58)
abbrev pub end_in : List ℕ → ℕ → Option ℕ
end_in text start = if is_package text then last_from 58 start text else option_or (last_from 46 start text) (Some (length text - 1))

-- a stretch of a text, if it is an identifier
abbrev pub if_identifier : List ℕ → ℕ → ℕ → Option (Range ℕ)
if_identifier text start end = if is_identifier (slice_range text start end) then Some (record { start = start; end = end }) else None

-- WHERE A TEXT IN QUOTES HAS THE NAME of a module: nowhere if it has an escape (92), or if what
-- stands there is no identifier
abbrev pub name_in : List ℕ → Option (Range ℕ)
name_in text = if is_some (last_from 92 0 text) then None else option_and_then (if_identifier text (start_in text)) (end_in text (start_in text))
