-- Places in a document.
use Rattle.std.specs.Prelude.{◌≡◌, ℕ, ◌+◌, ◌<◌, ◌≤◌, true, List, [], ◌∷◌, slice_index, slice_range}
use Rattle.std.specs.Str.{IsCharBoundary, IsUtf8, chars}
use Rattle.typst_positions.specs.Columns.{width}
use Rattle.typst_positions.specs.Positions.{position_of}
use Rattle.typst_positions.specs.Starts.{is_line_end}
use Rattle.typst_positions.specs.declared.columns.Encoding.{Encoding}
use Rattle.typst_protocol.specs.declared.values.Place.{Place}
use Rattle.typst_document.specs.Document.{Opened}

-- a place is the position of a byte
abbrev pub IsPlaceOf : Opened → ℕ → Place → Type 0
IsPlaceOf document byte place = (record { line = place.line; column = place.character }) ≡ position_of document.encoding document.source.text byte

-- how wide some characters are
abbrev pub wide : Encoding → List ℕ → ℕ
wide encoding [] = 0
wide encoding (c ∷ cs) = width encoding c + wide encoding cs

-- no line ends between two bytes
abbrev pub IsOneLine : List ℕ → ℕ → ℕ → Type 0
IsOneLine text from to = (k : ℕ) → from ≤ k → k < to → ¬ (is_line_end (slice_index text k) ≡ true)

-- between two bytes stand whole characters of one line, which are so wide
pub record IsWay (encoding : Encoding) (text : List ℕ) (from to count : ℕ) : Type 0 where
  pub utf8 : IsUtf8 text
  pub ordered : from ≤ to
  pub first : IsCharBoundary text from
  pub last : IsCharBoundary text to
  pub line : IsOneLine text from to
  pub is : count ≡ wide encoding (chars (slice_range text from to))
