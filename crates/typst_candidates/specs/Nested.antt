-- How the notes of a reading are nested.
use Rattle.std.specs.Prelude.{◌≡◌, ℕ, ◌+◌, ◌<◌, Bool, List, [], ◌∷◌, ◌++◌, length, Some}
use Rattle.typst_language.specs.declared.calls.Block.{Block}
use Rattle.typst_language.specs.declared.calls.Mark.TheVariants as mark
use Rattle.typst_language.specs.declared.calls.Note.{Note}
use Rattle.typst_candidates.specs.declared.entry.Entry.{Entry}
use Rattle.typst_candidates.specs.Cursors.{pieces_of, pieces_in, closing_of}
use Rattle.typst_candidates.specs.Entries.{entries_by}
use Rattle.typst_candidates.specs.Records.{IsRising}
use Rattle.typst_candidates.specs.Units.{after_first, top_cuts, cuts_in}

-- Notes where `levels` levels are left: a piece's note says as many, and a block's says fewer, with
-- the notes in the block up to the one where it ends.
pub data Nested : ℕ → List Note → Type 0 where
  none : (levels : ℕ) → Nested levels []
  piece : (levels : ℕ) (n : Note) (ns : List Note) (line : Bool) (brackets : ℕ) → n.mark ≡ mark.Piece line brackets → n.levels ≡ levels → Nested levels ns → Nested levels (n ∷ ns)
  block : (levels : ℕ) (o c : Note) (inner later : List Note) (b : Block) → o.mark ≡ mark.Opens b → c.mark ≡ mark.Closes → c.levels ≡ o.levels → o.levels < levels
      → Nested o.levels inner → Nested levels later → Nested levels (o ∷ (inner ++ c ∷ later))

-- Entries say what is noted in reading a text: its notes are nested, and in order.
pub record Written (es : List Entry) (ns : List Note) : Type 0 where
  pub entries : es ≡ entries_by 0 ns
  pub nested : Nested 256 ns
  pub rising : IsRising 0 ns

-- In nested notes, the pieces read with all levels left are those that are in no block.
abbrev pub TopRunLaw : Type 0
TopRunLaw = (ns : List Note) → Nested 256 ns → IsRising 0 ns → after_first (pieces_of 0 0 (entries_by 0 ns)) ≡ top_cuts ns

-- In nested notes, the pieces read with a content block's levels are those of its own run: in it,
-- and in no block of it.
abbrev pub InnerRunLaw : Type 0
InnerRunLaw = (levels at : ℕ) (ns : List Note) → Nested levels ns → IsRising 0 ns → pieces_in at 0 (entries_by 0 ns) ≡ cuts_in at ns

-- A block ends with the first note after those nested in it.
abbrev pub ClosingLaw : Type 0
ClosingLaw = (levels number start : ℕ) (inner : List Note) (c : Note) (later : List Note) → Nested levels inner → c.mark ≡ mark.Closes
    → closing_of 0 number (entries_by start (inner ++ c ∷ later)) ≡ Some (number + length inner)
