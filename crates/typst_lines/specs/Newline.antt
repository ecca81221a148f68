-- The ends of lines.
use Rattle.std.specs.Prelude.{ℕ, Bool, true, not, ◌&&◌, ◌||◌, if◌then◌else◌, ◌==◌, nat_le, Option, List, [], ◌∷◌, ◌++◌, slice_get}
use Rattle.typst_lines.specs.Place.{Place, passes, scout}

-- the newline characters are LF, VT, FF, CR, U+0085, U+2028 and U+2029
abbrev pub is_newline : ℕ → Bool
is_newline c = (nat_le 10 c && nat_le c 13) || c == 0x85 || c == 0x2028 || c == 0x2029

-- a line ends after each newline character but a carriage return that a line feed follows
abbrev pub ends_line : ℕ → Option ℕ → Bool
ends_line c next = is_newline c && not (c == 13 && passes (λ d. d == 10) next)

-- the characters of the line end that comes next: none, one, or the two of CR LF
abbrev pub line_end_len : Place → ℕ
line_end_len p =
    if passes is_newline (scout 0 p) then (if passes (λ c. c == 13) (scout 0 p) && passes (λ c. c == 10) (scout 1 p) then 2 else 1) else 0

-- some texts with a character put before the first
abbrev pub onto_first : ℕ → List (List ℕ) → List (List ℕ)
onto_first c [] = []
onto_first c (text ∷ texts) = (c ∷ text) ∷ texts

-- the stretches of characters between the line ends
abbrev pub stretches : List ℕ → List (List ℕ)
stretches [] = [] ∷ []
stretches (c ∷ cs) =
    if ends_line c (slice_get cs 0) then [] ∷ stretches cs else (if is_newline c then stretches cs else onto_first c (stretches cs))

-- the line ends of characters, in their order
abbrev pub line_ends : List ℕ → List (List ℕ)
line_ends [] = []
line_ends (c ∷ cs) =
    if ends_line c (slice_get cs 0) then (c ∷ []) ∷ line_ends cs else (if is_newline c then onto_first c (line_ends cs) else line_ends cs)

-- the first texts and the second ones in turn, joined
abbrev pub woven : List (List ℕ) → List (List ℕ) → List ℕ
woven [] ends = []
woven (text ∷ texts) [] = text ++ woven texts []
woven (text ∷ texts) (end ∷ ends) = text ++ (end ++ woven texts ends)

-- no newline character is among the characters
abbrev pub lacks_newlines : List ℕ → Bool
lacks_newlines [] = true
lacks_newlines (c ∷ cs) = not (is_newline c) && lacks_newlines cs

-- no newline character is in any of the texts
abbrev pub all_lack_newlines : List (List ℕ) → Bool
all_lack_newlines [] = true
all_lack_newlines (text ∷ texts) = lacks_newlines text && all_lack_newlines texts
