-- What contracts see of an open document, and what changes make of its text.
use Rattle.std.specs.Prelude.{◌≡◌, ℕ, ◌≤◌, ⊤, min, max, true, List, [], ◌++◌, length, take, drop, slice_range, Option, None, Some, refl}
use Rattle.std.specs.Str.{IsCharBoundary}
use Rattle.std.specs.Coded.{Coded, code_by, coded×}
use Rattle.std.specs.declared.ops.Range.{Range}
use Rattle.typst_lines.specs.UnicodeTables.{unicode_classes}
use Rattle.typst_lines.specs.declared.by_unicode.UnicodeClasses.{UnicodeClasses}
use Rattle.typst_lines.specs.contracts.by_unicode.UnicodeClasses.{the_row as classes_row}
use Rattle.typst_parser.specs.Headline.{Headline}
use Rattle.typst_parser.specs.Held.{Held, held_code}
use Rattle.typst_parser.specs.RootEdits.{IsRootEdit}
use Rattle.typst_positions.specs.contracts.columns.Encoding.{the_row as encoding_row}
use Rattle.typst_positions.specs.Positions.{byte_at}
use Rattle.typst_positions.specs.Starts.{line_starts}
use Rattle.typst_positions.specs.declared.columns.Encoding.{Encoding}
use Rattle.typst_protocol.specs.Parameters.{Edit, whole, ranged}

-- its source, and in what its columns are counted
pub record Opened : Type 0 where
  pub source : Held UnicodeClasses
  pub encoding : Encoding

-- all bytes of its text
abbrev pub all_bytes : Opened → Range ℕ
all_bytes document = record { start = 0; end = length document.source.text }

-- a document is stored as the pair of these
abbrev pub opened_code : Coded Opened
opened_code =
    code_by (Held UnicodeClasses × Encoding) (coded× (held_code classes_row.coded) encoding_row.coded)
    (λ document. (document.source, document.encoding)) (λ p. record { source = p.0; encoding = p.1 }) (λ _. refl)

-- what is kept with a text: the table of its lines, and its tree. By the headline the tree is, spans aside, the one that the written
-- grammar gives to the whole text, and its leaves joined are the text
pub record IsKept (source : Held UnicodeClasses) (starts : List ℕ) : Type 0 where
  pub lines : starts ≡ line_starts source.text
  pub recorded : source.has_records ≡ true
  pub headline : Headline unicode_classes source

-- a text with another one in the place of what stands between two bytes, whichever of them comes first
abbrev pub put_between : List ℕ → ℕ → ℕ → List ℕ → List ℕ
put_between text a b new = take (min a b) text ++ new ++ drop (max a b) text

-- what a change makes of a text
abbrev pub changed : Encoding → List ℕ → Edit → List ℕ
changed encoding text (whole new) = new
changed encoding text (ranged place new) = put_between text (byte_at encoding text place.start) (byte_at encoding text place.end) new

-- the text of some bytes is what stands there if they begin and end between characters, and else it is empty
pub record IsTextAt (text : List ℕ) (bytes : Range ℕ) (found : List ℕ) : Type 0 where
  pub within : bytes.start ≤ bytes.end → IsCharBoundary text bytes.start → IsCharBoundary text bytes.end → found ≡ slice_range text bytes.start bytes.end
  pub none : (bytes.start ≤ bytes.end → IsCharBoundary text bytes.start → ¬ (IsCharBoundary text bytes.end)) → found ≡ []

-- these bytes of a changed document were read again, or it isn't known which: by what was read again some of the root's children gave
-- way to others
abbrev pub IsReadAgain : Opened → Opened → Option (Range ℕ) → Type 0
IsReadAgain old new None = ⊤
IsReadAgain old new (Some read) = IsRootEdit old.source.root new.source.root read
