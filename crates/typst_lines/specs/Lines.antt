-- The lines of a text, and positions in it.
use Rattle.std.specs.Prelude.{◌≡◌, ℕ, ◌+◌, ◌-◌, ◌≤◌, Bool, true, ◌&&◌, ◌==◌, if◌then◌else◌, nat_le, nat_lt, Option, Some, None, List, [], ◌∷◌, map, filter, length, take, drop, reverse, slice_get, slice_range, count_by, unwrap_or, option_map, option_and_then}
use Rattle.std.specs.Str.{chars, IsCharBoundary}
use Rattle.std.specs.declared.ops.Range.{Range}
use Rattle.typst_lines.specs.Place.{Place, scout, char_width}
use Rattle.typst_lines.specs.Newline.{ends_line}
use Rattle.typst_lines.specs.declared.lines.Line.{Line}

-- the UTF-16 units of a character: two past U+FFFF
abbrev pub utf16_len : ℕ → ℕ
utf16_len c = if nat_lt c 0x1_0000 then 1 else 2

-- the UTF-16 units of characters
abbrev pub units : List ℕ → ℕ
units [] = 0
units (c ∷ cs) = utf16_len c + units cs

-- the bytes of characters in UTF-8
abbrev pub bytes : List ℕ → ℕ
bytes [] = 0
bytes (c ∷ cs) = char_width c + bytes cs

-- the place after some characters, the nearest first, and before others
abbrev pub between : List ℕ → List ℕ → Place
between before ahead = record { before = before; ahead = ahead }

-- the places of a text from one on, in order
abbrev pub places_from : List ℕ → List ℕ → List Place
places_from before [] = between before [] ∷ []
places_from before (c ∷ ahead) = between before (c ∷ ahead) ∷ places_from (c ∷ before) ahead

-- all places of a text, in order
abbrev pub places : List ℕ → List Place
places text = places_from [] (chars text)

-- a line starts at the text's start and after each line end: by the characters before, and the next
-- one
abbrev pub starts_behind : List ℕ → Option ℕ → Bool
starts_behind [] next = true
starts_behind (c ∷ before) next = ends_line c next

-- whether a line starts at a place
abbrev pub starts_line : Place → Bool
starts_line p = starts_behind p.before (scout 0 p)

-- how many bytes and UTF-16 units are before a place
abbrev pub measured : Place → Line
measured p = record { byte_idx = bytes p.before; utf16_idx = units p.before }

-- the line table: the places where a line starts, measured
unfoldable pub line_table : List ℕ → List Line
line_table text = map measured (filter starts_line (places text))

-- the lines of the table that start after a byte offset
unfoldable pub lines_after : List ℕ → ℕ → List Line
lines_after text byte = filter (λ line. nat_lt byte line.byte_idx) (line_table text)

-- the UTF-16 units before a byte offset
abbrev pub utf16_before : List ℕ → ℕ → ℕ
utf16_before text byte = units (chars (take byte text))

-- a line of the table: its start is a boundary with so many units before it
pub record IsLine (text : List ℕ) (line : Line) : Type 0 where
  pub boundary : IsCharBoundary text line.byte_idx
  pub counted : line.utf16_idx ≡ utf16_before text line.byte_idx

-- a stretch of the text where no line starts, and each byte is a UTF-16 unit
pub record IsPlainRun (text : List ℕ) (start end : ℕ) : Type 0 where
  pub grows : start ≤ end
  pub boundary : IsCharBoundary text end
  pub none_inside : lines_after text start ≡ lines_after text end
  pub counted : utf16_before text end + start ≡ utf16_before text start + end

-- the number of the line that holds a byte offset: how many lines start at or before it, less one
unfoldable pub line_of : List ℕ → ℕ → ℕ
line_of text byte = count_by (λ line. nat_le line.byte_idx byte) (line_table text) - 1

-- the line that holds a byte offset
pub record IsLineOf (text : List ℕ) (byte : ℕ) (line : Line) : Type 0 where
  pub at : slice_get (line_table text) (line_of text byte) ≡ Some line
  pub before : line.byte_idx ≤ byte

-- a line that starts at or before a UTF-16 offset
pub record IsLineUpTo (text : List ℕ) (utf16 : ℕ) (line : Line) : Type 0 where
  pub number : ℕ
  pub at : slice_get (line_table text) number ≡ Some line
  pub before : line.utf16_idx ≤ utf16

-- the byte at which a line starts
unfoldable pub line_start : List ℕ → ℕ → Option ℕ
line_start text line = option_map (λ l. l.byte_idx) (slice_get (line_table text) line)

-- how many characters are between a byte offset and the start of its line
unfoldable pub column_of : List ℕ → ℕ → ℕ
column_of text byte = length (chars (slice_range text (unwrap_or (line_start text (line_of text byte)) 0) byte))

-- from where a line starts to where the next one does, or to the text's end
unfoldable pub line_range : List ℕ → ℕ → Option (Range ℕ)
line_range text line =
    option_map (λ start. record { start = start; end = unwrap_or (line_start text (line + 1)) (length text) }) (line_start text line)

-- the byte so many characters into a range of bytes, which holds at least as many
abbrev pub byte_in_range : List ℕ → ℕ → Range ℕ → Option ℕ
byte_in_range text column range =
    let cs = chars (slice_range text range.start range.end) in
    if nat_le column (length cs) then Some (range.start + bytes (take column cs)) else None

-- the byte at a line and a column
unfoldable pub byte_at : List ℕ → ℕ → ℕ → Option ℕ
byte_at text line column = option_and_then (byte_in_range text column) (line_range text line)

-- the first place with at least so many UTF-16 units before it
abbrev pub least_place : List ℕ → ℕ → Option Place
least_place text utf16 = slice_get (filter (λ p. nat_le utf16 (units p.before)) (places text)) 0

-- the byte of that place; none if it is the text's end with more units before it
abbrev pub byte_reached : ℕ → Place → Option ℕ
byte_reached utf16 p = if nat_lt utf16 (units p.before) && length p.ahead == 0 then None else Some (bytes p.before)

-- the byte with so many UTF-16 units before it; inside a pair of units the byte after the character
unfoldable pub byte_at_utf16 : List ℕ → ℕ → Option ℕ
byte_at_utf16 text utf16 = option_and_then (byte_reached utf16) (least_place text utf16)

-- the longest list that two lists begin with
abbrev pub common_front : List ℕ → List ℕ → List ℕ
common_front [] ds = []
common_front (c ∷ cs) [] = []
common_front (c ∷ cs) (d ∷ ds) = if c == d then c ∷ common_front cs ds else []

-- the bytes of the longest common front of two texts in whole characters, and then of the longest
-- common end of what is left of both
unfoldable pub common_ends : List ℕ → List ℕ → ℕ × ℕ
common_ends old new =
    let front = common_front (chars old) (chars new) in
    let end = common_front (reverse (drop (length front) (chars old))) (reverse (drop (length front) (chars new))) in
    (bytes front, bytes end)

-- a number of bytes is the length of the longest common front of two texts
pub record IsCommonFront (old new : List ℕ) (n : ℕ) : Type 0 where
  pub size : n ≡ bytes (common_front (chars old) (chars new))
  pub old_boundary : IsCharBoundary old n
  pub new_boundary : IsCharBoundary new n
  pub old_rest : chars (drop n old) ≡ drop (length (common_front (chars old) (chars new))) (chars old)
  pub new_rest : chars (drop n new) ≡ drop (length (common_front (chars old) (chars new))) (chars new)
