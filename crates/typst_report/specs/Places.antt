-- Places in a text.
use Rattle.std.specs.Prelude.{◌≡◌, ℕ, ◌+◌, ◌-◌, ◌<◌, ◌≤◌, List, length, unwrap_or}
use Rattle.std.specs.Str.{IsCharBoundary, chars}
use Rattle.std.specs.List.{slice_range}
use Rattle.typst_lines.specs.Lines.{column_of, line_of, line_start, units, utf16_before}
use Rattle.typst_report.specs.declared.place.LineColumn.{LineColumn}

-- where the line of a byte starts
abbrev pub line_begin : List ℕ → ℕ → ℕ
line_begin text byte = unwrap_or (line_start text (line_of text byte)) 0

-- the UTF-16 units between the start of its line and a byte
abbrev pub units_in_line : List ℕ → ℕ → ℕ
units_in_line text byte = utf16_before text byte - utf16_before text (line_begin text byte)

-- the place of a byte: the numbers of its line and its column, counted from 1
abbrev pub place_at : List ℕ → ℕ → LineColumn
place_at text byte = record {
  byte = byte;
  line = line_of text byte + 1;
  column = column_of text byte + 1;
  utf16_column = units_in_line text byte + 1;
}

-- a place of the text, between two of its characters
pub record IsPlace (text : List ℕ) (p : LineColumn) : Type 0 where
  pub at : p ≡ place_at text p.byte
  pub boundary : IsCharBoundary text p.byte

-- the place of a byte, or of the character that holds it
pub record IsPlaceOf (text : List ℕ) (byte : ℕ) (p : LineColumn) : Type 0 where
  pub place : IsPlace text p
  pub before : p.byte ≤ byte
  pub nearest : (i : ℕ) → p.byte < i → i ≤ byte → ¬ (IsCharBoundary text i)

-- a place in the line of a byte, from which on the columns of the byte are counted
pub record IsBase (text : List ℕ) (byte : ℕ) (p : LineColumn) : Type 0 where
  pub boundary : IsCharBoundary text p.byte
  pub before : p.byte ≤ byte
  pub line : p.line ≡ line_of text byte + 1
  pub column : p.column + length (chars (slice_range text p.byte byte)) ≡ column_of text byte + 1
  pub utf16_column : p.utf16_column + units (chars (slice_range text p.byte byte)) ≡ units_in_line text byte + 1
