-- From a note back to the pieces of a run.
use Rattle.std.specs.Prelude.{◌≡◌, ℕ, suc, ◌-◌, Bool, List, [], ◌∷◌, ◌++◌, take, Option, Some, None}
use Rattle.typst_lines.specs.Classes.{CharClasses}
use Rattle.typst_tokens.specs.Sight.{width}
use Rattle.typst_language.specs.declared.calls.Block.TheVariants as block
use Rattle.typst_language.specs.declared.calls.Mark.TheVariants as mark
use Rattle.typst_language.specs.declared.calls.Note.{Note}
use Rattle.typst_language.specs.Point.{state_of}
use Rattle.typst_grammar.specs.Grammar.{max_depth, start_of, log}
use Rattle.typst_edits.specs.BlockRuns.{run_at}
use Rattle.typst_edits.specs.Edit.{Among}
use Rattle.typst_edits.specs.InnerBytes.{inner_end}
use Rattle.typst_edits.specs.Laws.{blocks_of_text}
use Rattle.typst_edits.specs.Runs.{text_run}
use Rattle.typst_edits.specs.Sequence.{first_of, AllGo, End, first_end}
use Rattle.typst_edits.specs.Spot.{Spot}

-- the notes that are kept
abbrev pub listed : Option (List Note) → List Note
listed None = []
listed (Some notes) = notes

-- a note says that pieces of a run end so
pub record Says (text : List ℕ) (note : Note) (e : End (Bool × ℕ)) : Type 0 where
  pub mark : note.mark ≡ mark.Piece e.value.0 e.value.1
  pub before : note.before ≡ width (take e.taken text)
  pub state : note.state ≡ state_of e.state

-- It is the note where a given number of pieces of a text's run end.
pub record OfRun (k : CharClasses) (text : List ℕ) (note : Note) : Type 0 where
  pub count : ℕ
  pub go : AllGo (first_of count (text_run k (start_of text)))
  pub says : Says text note (first_end count (text_run k (start_of text)))

-- The law of a run's notes: a note of a text's log that says that all levels are left is one where pieces of its run end.
abbrev pub RunNotesLaw : Type 0
RunNotesLaw = (k : CharClasses) (text : List ℕ) (note : Note) → Among note (listed (log k text).notes) → note.levels ≡ max_depth → OfRun k text note

-- It is the note where a given number of pieces of a content block's run end.
pub record OfInnerRun (k : CharClasses) (levels : ℕ) (text : List ℕ) (c : Spot (Unit {0})) (note : Note) : Type 0 where
  pub count : ℕ
  pub go : AllGo (first_of count (run_at k levels c (start_of text)))
  pub says : Says text note (inner_end k levels count c (start_of text))

-- The notes of a content block: between the two where it begins and ends, those that say that as many levels are left as in it are those where pieces of its run end.
pub record InnerNotes (k : CharClasses) (levels : ℕ) (text : List ℕ) (c : Spot (Unit {0})) : Type 0 where
  pub earlier : List Note
  pub opens : Note
  pub inner : List Note
  pub closes : Note
  pub later : List Note
  pub notes : (log k text).notes ≡ Some (earlier ++ opens ∷ (inner ++ closes ∷ later))
  pub name : opens.mark ≡ mark.Opens c.name
  pub start : opens.start ≡ width (take c.at text)
  pub levels_there : opens.levels ≡ max_depth - c.fewer
  pub name_end : closes.mark ≡ mark.Closes
  pub each : (note : Note) → Among note inner → note.levels ≡ suc levels → OfInnerRun k levels text c note

-- The law of a content block's notes.
abbrev pub InnerNotesLaw : Type 0
InnerNotesLaw = (k : CharClasses) (levels : ℕ) (text : List ℕ) (c : Spot (Unit {0})) → Among c (blocks_of_text k text) → c.name ≡ block.Content → max_depth - c.fewer ≡ suc levels → InnerNotes k levels text c
