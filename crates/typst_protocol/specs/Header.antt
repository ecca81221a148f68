-- What the header lines say of the length of a body.
use Rattle.std.specs.Prelude.{ℕ, ◌+◌, ◌^◌, Bool, ◌&&◌, ◌||◌, ◌==◌, if◌then◌else◌, nat_lt, List, [], ◌∷◌, length, take, drop, reverse, codes, position, Option, None, Some, option_map, option_and_then}
use Rattle.std.specs.Str.{all_ascii_digits, str_eq_ignore_ascii_case}
use Rattle.std.specs.Str.Parse.{digits_value}

-- a header line is cut at its first colon into a name and a value
abbrev pub at_colon : List ℕ → Option (List ℕ × List ℕ)
at_colon line = option_map (λ k. (take k line, drop (k + 1) line)) (position (λ c. c == 58) line)

-- spaces and tabs are blanks
abbrev pub is_blank : ℕ → Bool
is_blank c = c == 32 || c == 9

-- a value without the blanks before it
abbrev pub unled : List ℕ → List ℕ
unled [] = []
unled (c ∷ cs) = if is_blank c then unled cs else c ∷ cs

-- a value without the blanks around it
abbrev pub trimmed : List ℕ → List ℕ
trimmed value = reverse (unled (reverse (unled value)))

-- a length is written by one or more decimal digits, and fits 64 bits
abbrev pub number : List ℕ → Option ℕ
number digits =
    if nat_lt 0 (length digits) && all_ascii_digits digits && nat_lt (digits_value 10 digits) (2 ^ 64) then Some (digits_value 10 digits) else None

-- a length may be given again, but no other one
abbrev pub agreed : Option ℕ → ℕ → Option (Option ℕ)
agreed None n = Some (Some n)
agreed (Some m) n = if m == n then Some (Some n) else None

-- what a header makes of the length that came before it: only Content-Length counts, in upper or lower case
abbrev pub header : Option ℕ → List ℕ × List ℕ → Option (Option ℕ)
header before h =
    if str_eq_ignore_ascii_case h.0 (codes "content-length") then option_and_then (agreed before) (number (trimmed h.1)) else Some before

-- what a header line, which has a colon, makes of the length that came before it
abbrev pub length_after : List ℕ → Option ℕ → Option (Option ℕ)
length_after line before = option_and_then (header before) (at_colon line)
