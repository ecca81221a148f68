-- What a source keeps beside its text, lines and tree.
use Rattle.std.specs.Prelude.{◌≡◌, ℕ, ◌+◌, ◌-◌, ◌<◌, ◌≤◌, ◌^◌, ◌++◌, true, List, length, take, drop, Option, Some, None}
use Rattle.std.specs.Str.{chars, IsUtf8, IsCharBoundary}
use Rattle.std.specs.declared.ops.Range.{Range}
use Rattle.typst_kinds.specs.Span.{number_of}
use Rattle.typst_tree.specs.Tree.{Tree}
use Rattle.typst_tree.specs.Boundaries.{IsBoundary}
use Rattle.typst_tree.specs.Order.{IsNumbered, upper_at}
use Rattle.typst_tree.specs.declared.boundary.Boundary.{Boundary}
use Rattle.typst_lines.specs.Classes.{CharClasses}
use Rattle.typst_candidates.specs.Entries.{Units, units_of}
use Rattle.typst_edits.specs.Grammar.{log, tree}
use Rattle.typst_parser.specs.declared.replacement.Replacement.{Replacement}
use Rattle.typst_parser.specs.Held.{Held}
use Rattle.typst_parser.specs.Headline.{Headline, file_of, numbered_in}

-- the numbers below each node are between its number and its upper end, if there is a file
abbrev pub IsPlacedBy : Option ℕ → Tree → Type 0
IsPlacedBy None t = Unit {0}
IsPlacedBy (Some file) t = IsNumbered t

-- the numbers below each node are between its number and its upper end, and those of the root among
-- the numbers that nodes can have, if there is a file
abbrev pub IsPlaced : Option ℕ → Tree → Type 0
IsPlaced None t = Unit {0}
IsPlaced (Some file) t = IsNumbered t × (1 ≤ number_of t.head.span) × (upper_at t.head ≤ 2 ^ 47)

-- These are the units of a text's reading, and a machine word counts the text.
pub record AreUnits (k : CharClasses) (text : List ℕ) (units : Units) : Type 0 where
  pub are : units ≡ units_of (log k (chars text))
  pub fits : length text < 2 ^ 64 - 1

-- What a source with records keeps to: the headline holds, its numbers lie where an edit may put others between
-- them, and the units are those of the text's reading.
pub record KeepsRecords {C : Type 0} (k : CharClasses) (s : Held C) (units : Units) : Type 0 where
  pub headline : Headline k s
  pub placed : IsPlaced (file_of s.root) s.root
  pub are : AreUnits k s.text units

-- What a source keeps to: its boundary is one between the root's children, and if it has records, it keeps to what
-- they say.
pub record Keeps {C : Type 0} (k : CharClasses) (s : Held C) (units : Units) (boundary : Boundary) : Type 0 where
  pub records : s.has_records ≡ true → KeepsRecords k s units
  pub between : IsBoundary s.root boundary

-- A stretch of a text was replaced by another text, between character boundaries.
pub record IsEdited (old new : List ℕ) (e : Replacement) : Type 0 where
  pub with : List ℕ
  pub utf8_old : IsUtf8 old
  pub utf8 : IsUtf8 with
  pub start : IsCharBoundary old e.start
  pub end : IsCharBoundary old e.old_end
  pub ordered : e.start ≤ e.old_end
  pub is : new ≡ take e.start old ++ (with ++ drop e.old_end old)
  pub new_end : e.new_end ≡ e.start + length with

-- a source has another text now, and a range of it was read
pub record Edits {C : Type 0} (k : CharClasses) (old new : Held C) (text : List ℕ) (range : Range ℕ) : Type 0 where
  pub text_is : new.text ≡ text
  pub headline : Headline k new
  pub id : new.id ≡ old.id
  pub classes : new.classes ≡ old.classes
  pub file : file_of new.root ≡ file_of old.root
  pub records : new.has_records ≡ true
  pub ordered : range.start ≤ range.end
  pub within : range.end ≤ length new.text

-- a whole text was read, and its tree numbered in the file of the one before
pub record ReadsWhole {C : Type 0} (k : CharClasses) (old new : Held C) (text : List ℕ) (range : Range ℕ) : Type 0 where
  pub range_is : range ≡ record { start = 0; end = length text }
  pub root : numbered_in (file_of old.root) (tree k (chars text)) ≡ Some new.root
  pub fits : length text < 2 ^ 64 - 1
