-- The notes of a text stand in each other.
use Rattle.std.specs.Prelude.{◌≡◌, ℕ, suc, ◌+◌, ◌-◌, List, ◌∷◌, ◌++◌, length, take, Some}
use Rattle.typst_lines.specs.Classes.{CharClasses}
use Rattle.typst_tokens.specs.Sight.{width}
use Rattle.typst_language.specs.declared.calls.Block.TheVariants as block
use Rattle.typst_language.specs.declared.calls.Mark.TheVariants as mark
use Rattle.typst_language.specs.declared.calls.Note.{Note}
use Rattle.typst_candidates.specs.Nested.{Nested}
use Rattle.typst_grammar.specs.Grammar.{max_depth, start_of, log}
use Rattle.typst_edits.specs.Edit.{Among}
use Rattle.typst_edits.specs.Laws.{blocks_of_text}
use Rattle.typst_edits.specs.NumberedNotes.{NumberedInner}
use Rattle.typst_edits.specs.PieceNotes.{listed}
use Rattle.typst_edits.specs.Splice.{notes_in}
use Rattle.typst_edits.specs.Spot.{Spot, unit_at}

-- The law of nested notes: those of a text are nested, where all levels are left.
abbrev pub NestedLaw : Type 0
NestedLaw = (k : CharClasses) (text : List ℕ) → Nested max_depth (listed (log k text).notes)

-- The law of notes nested in a block: those between the two notes of a content block are nested, where as many levels are left as its first note says.
abbrev pub NestedInnerLaw : Type 0
NestedInnerLaw = (k : CharClasses) (levels : ℕ) (text : List ℕ) (c : Spot (Unit {0})) → Among c (blocks_of_text k text) → c.name ≡ block.Content → max_depth - c.fewer ≡ suc levels
    → (n : NumberedInner k levels text c) → Nested n.opens.levels n.inner

-- The notes of any block, of content or of code: those between the two where it begins and ends are nested, on the block's level.
pub record NestedBlock (k : CharClasses) (text : List ℕ) (c : Spot (Unit {0})) : Type 0 where
  pub earlier : List Note
  pub opens : Note
  pub inner : List Note
  pub closes : Note
  pub later : List Note
  pub notes : (log k text).notes ≡ Some (earlier ++ opens ∷ (inner ++ closes ∷ later))
  pub name : opens.mark ≡ mark.Opens c.name
  pub start : opens.start ≡ width (take c.at text)
  pub levels_there : opens.levels ≡ max_depth - c.fewer
  pub name_end : closes.mark ≡ mark.Closes
  pub end : closes.before ≡ width (take (c.at + (unit_at c (start_of text)).taken) text)
  pub levels_end : closes.levels ≡ max_depth - c.fewer
  pub nested : Nested (max_depth - c.fewer) inner
  -- as many notes stand before the first as are noted before the block, and as many between the two as its reading notes
  pub number : notes_in c.before ≡ suc (length earlier)
  pub long : length inner ≡ notes_in (unit_at c (start_of text)).asks

-- The law of the notes nested in any block.
abbrev pub NestedBlockLaw : Type 0
NestedBlockLaw = (k : CharClasses) (text : List ℕ) (c : Spot (Unit {0})) → Among c (blocks_of_text k text) → NestedBlock k text c
