-- Positions in a text, in lines and columns.
use Rattle.std.specs.Prelude.{◌≡◌, ℕ, ◌+◌, ◌-◌, ◌≤◌, List, Some, slice_get, option_map, unwrap_or}
use Rattle.std.specs.Str.{IsCharBoundary}
use Rattle.std.specs.declared.ops.Range.{Range}
use Rattle.typst_lines.specs.Lines.{line_table, line_of, line_range, column_of, byte_at, utf16_before}
use Rattle.typst_c.specs.declared.positions.Measure.{Measure}
use Rattle.typst_c.specs.declared.positions.Measure.TheVariants as measure
use Rattle.typst_c.specs.declared.positions.Position.{Position}

-- the UTF-16 units before a line
abbrev pub units_before : List ℕ → ℕ → ℕ
units_before text line = unwrap_or (option_map (λ l. l.utf16_idx) (slice_get (line_table text) line)) 0

-- the position of a byte: its line, the characters and the UTF-16 units before it in the line, and the units before it in the text
abbrev pub position_of : List ℕ → ℕ → Position
position_of text byte =
    record {
      line = line_of text byte;
      column = column_of text byte;
      utf16_column = utf16_before text byte - units_before text (line_of text byte);
      utf16 = utf16_before text byte;
    }

-- the code of what columns are counted in
abbrev pub measure_code : Measure → ℕ
measure_code measure.Chars = 0
measure_code measure.Utf16 = 1
measure_code measure.Bytes = 2

-- a byte stands so many UTF-16 units after a line's start, and not past the line's end
pub record IsAtUnits (text : List ℕ) (line column byte : ℕ) : Type 0 where
  pub range : Range ℕ
  pub is : line_range text line ≡ Some range
  pub at : utf16_before text byte ≡ units_before text line + column
  pub to : byte ≤ range.end
  pub boundary : IsCharBoundary text byte

-- a byte stands so many bytes after a line's start, and not past the line's end
pub record IsAtBytes (text : List ℕ) (line column byte : ℕ) : Type 0 where
  pub range : Range ℕ
  pub is : line_range text line ≡ Some range
  pub at : byte ≡ range.start + column
  pub to : byte ≤ range.end
  pub boundary : IsCharBoundary text byte

-- a byte stands at a column of a line
abbrev pub IsMeasured : Measure → List ℕ → ℕ → ℕ → ℕ → Type 0
IsMeasured measure.Chars text line column byte = byte_at text line column ≡ Some byte
IsMeasured measure.Utf16 text line column byte = IsAtUnits text line column byte
IsMeasured measure.Bytes text line column byte = IsAtBytes text line column byte

-- a byte stands at a column of a line, counted in what a code says
abbrev pub IsByteAt : ℕ → List ℕ → ℕ → ℕ → ℕ → Type 0
IsByteAt code text line column byte = (m : Measure) × ((measure_code m ≡ code) × IsMeasured m text line column byte)
