-- Positions in a text, and the bytes there.
use Rattle.std.specs.Prelude.{◌≡◌, ℕ, ◌+◌, ◌-◌, ◌<◌, ◌≤◌, nat_le, List, length, take, drop, slice_get, slice_index, count_by, Option, None, Some}
use Rattle.std.specs.declared.ops.Range.{Range}
use Rattle.typst_positions.specs.Columns.{bytes_before, column_of}
use Rattle.typst_positions.specs.Starts.{line_at, line_starts}
use Rattle.typst_positions.specs.declared.columns.Encoding.{Encoding}
use Rattle.typst_positions.specs.declared.positions.Position.{Position}

-- the byte at a column of the line that starts at a byte, or the text's end if there is no such
-- line
abbrev pub byte_in : Encoding → List ℕ → ℕ → Option ℕ → ℕ
byte_in encoding text column None = length text
byte_in encoding text column (Some start) = start + bytes_before encoding (line_at text start) column

-- the byte at a position
abbrev pub byte_at : Encoding → List ℕ → Position → ℕ
byte_at encoding text position = byte_in encoding text position.column (slice_get (line_starts text) position.line)

-- the line that holds a byte: how many lines start at or before it, less one
abbrev pub line_of : List ℕ → ℕ → ℕ
line_of text byte = count_by (λ start. nat_le start byte) (line_starts text) - 1

-- the position of a byte
abbrev pub position_of : Encoding → List ℕ → ℕ → Position
position_of encoding text byte =
    let start = slice_index (line_starts text) (line_of text byte) in
    record { line = line_of text byte; column = column_of encoding (line_at text start) (byte - start) }

-- a byte between the CR and the LF of one line end
pub record IsInsideEnd (text : List ℕ) (byte : ℕ) : Type 0 where
  pub some : 0 < byte
  pub return : slice_index text (byte - 1) ≡ 13
  pub feed : slice_index text byte ≡ 10

-- a text was made of another by putting so many bytes in the place of a range
pub record IsEdit (old new : List ℕ) (replace : Range ℕ) (len : ℕ) : Type 0 where
  pub ordered : replace.start ≤ replace.end
  pub within : replace.end ≤ length old
  pub fits : replace.start + len ≤ length new
  pub front : take replace.start new ≡ take replace.start old
  pub back : drop (replace.start + len) new ≡ drop replace.end old

-- these were the line starts of the text that this one was made of by such an edit
pub record IsEdited (starts : List ℕ) (new : List ℕ) (replace : Range ℕ) (len : ℕ) : Type 0 where
  pub old : List ℕ
  pub table : starts ≡ line_starts old
  pub edit : IsEdit old new replace len
