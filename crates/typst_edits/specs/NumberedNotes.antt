-- The notes of a run by their numbers.
use Rattle.std.specs.Prelude.{◌≡◌, ℕ, zero, suc, ◌+◌, ◌-◌, ◌<◌, ◌==◌, Bool, false, if◌then◌else◌, List, [], ◌∷◌, ◌++◌, length, take, Some}
use Rattle.typst_lines.specs.Place.{moved}
use Rattle.typst_lines.specs.Classes.{CharClasses}
use Rattle.typst_tokens.specs.Sight.{width}
use Rattle.typst_language.specs.declared.calls.Block.TheVariants as block
use Rattle.typst_language.specs.declared.calls.Mark.TheVariants as mark
use Rattle.typst_language.specs.declared.calls.Note.{Note}
use Rattle.typst_language.specs.Point.{gap_of}
use Rattle.typst_grammar.specs.Grammar.{max_depth, start_of, log}
use Rattle.typst_edits.specs.BlockRuns.{run_at}
use Rattle.typst_edits.specs.Edit.{Among}
use Rattle.typst_edits.specs.InnerBytes.{inner_end}
use Rattle.typst_edits.specs.Laws.{blocks_of_text}
use Rattle.typst_edits.specs.Occurrences.{goes}
use Rattle.typst_edits.specs.PieceNotes.{listed, Says}
use Rattle.typst_edits.specs.RunBytes.{PieceNote}
use Rattle.typst_edits.specs.Runs.{piece_at, text_run}
use Rattle.typst_edits.specs.Sequence.{turn_of, first_of, first_end, AllGo, End}
use Rattle.typst_edits.specs.Spot.{Spot, unit_at}

-- the notes that say that a given number of levels are left
abbrev pub of_level : ℕ → List Note → List Note
of_level levels [] = []
of_level levels (n ∷ ns) = if n.levels == levels then n ∷ of_level levels ns else of_level levels ns

-- something holds of each of several notes and its number, where the first has this one
abbrev pub Numbered : (ℕ → Note → Type 0) → ℕ → List Note → Type 0
Numbered P i [] = Unit {0}
Numbered P i (n ∷ ns) = P i n × Numbered P (suc i) ns

-- where the token after so many pieces begins; before the first piece it is where the run begins
abbrev pub cut_after : ℕ → End (Bool × ℕ) → ℕ
cut_after zero e = e.taken
cut_after (suc i) e = e.taken + gap_of e.state.known

-- A note says that so many pieces of a run end so, and that the token after them begins at its start.
pub record SaysOf (text : List ℕ) (e : ℕ → End (Bool × ℕ)) (i : ℕ) (note : Note) : Type 0 where
  pub says : Says text note (e i)
  pub start : note.start ≡ width (take (cut_after i (e i)) text)

-- The notes of a text's run: one more than it has pieces, each where as many pieces end as its number says.
pub record NumberedRun (k : CharClasses) (text : List ℕ) : Type 0 where
  pub count : ℕ
  pub go : AllGo (first_of count (text_run k (start_of text)))
  pub over : (let e = first_end count (text_run k (start_of text)) in goes (piece_at k e.value (moved e.taken (start_of text)) e.state) ≡ false)
  pub all : length (of_level max_depth (listed (log k text).notes)) ≡ suc count
  pub each : Numbered (SaysOf text (λ i. first_end i (text_run k (start_of text)))) 0 (of_level max_depth (listed (log k text).notes))

-- The law of the numbers of a run's notes: of the notes that say that all levels are left the one of each number stands where a given number of pieces of the run end.
abbrev pub NumberedRunLaw : Type 0
NumberedRunLaw = (k : CharClasses) (text : List ℕ) → NumberedRun k text

-- The notes of a content block's run, between the two where the block begins and ends.
pub record NumberedInner (k : CharClasses) (levels : ℕ) (text : List ℕ) (c : Spot (Unit {0})) : Type 0 where
  pub earlier : List Note
  pub opens : Note
  pub inner : List Note
  pub closes : Note
  pub later : List Note
  pub notes : (log k text).notes ≡ Some (earlier ++ opens ∷ (inner ++ closes ∷ later))
  pub name : opens.mark ≡ mark.Opens c.name
  pub start : opens.start ≡ width (take c.at text)
  pub levels_there : opens.levels ≡ suc levels
  pub state : opens.state ≡ c.start
  pub name_end : closes.mark ≡ mark.Closes
  pub end : closes.before ≡ width (take (c.at + (unit_at c (start_of text)).taken) text)
  pub levels_end : closes.levels ≡ suc levels
  pub count : ℕ
  pub go : AllGo (first_of count (run_at k levels c (start_of text)))
  pub over : (let r = run_at k levels c (start_of text) in let e = first_end count r in goes (turn_of r e.value (moved e.taken r.place) e.state) ≡ false)
  pub all : length (of_level (suc levels) inner) ≡ suc count
  pub each : Numbered (SaysOf text (λ i. inner_end k levels i c (start_of text))) 0 (of_level (suc levels) inner)

-- The law of the numbers of a content block's notes: of those between its two notes that say as many levels as are left in it the one of each number stands where a given number of pieces of its run end.
abbrev pub NumberedInnerLaw : Type 0
NumberedInnerLaw = (k : CharClasses) (levels : ℕ) (text : List ℕ) (c : Spot (Unit {0})) → Among c (blocks_of_text k text) → c.name ≡ block.Content → max_depth - c.fewer ≡ suc levels → NumberedInner k levels text c

-- The law of a note's number: a note where a given number of pieces of a text's run end has as many of the run's notes before it.
abbrev pub NumberLaw : Type 0
NumberLaw = (k : CharClasses) (text : List ℕ) (i : ℕ) → AllGo (first_of i (text_run k (start_of text))) → (p : PieceNote (log k text) max_depth text (first_end i (text_run k (start_of text)))) → length (of_level max_depth p.earlier) ≡ i

-- The law of cuts: after more pieces of a text's run the next token begins at a later byte.
abbrev pub CutsLaw : Type 0
CutsLaw = (k : CharClasses) (text : List ℕ) (i j : ℕ) → i < j → AllGo (first_of j (text_run k (start_of text)))
    → (let z = start_of text in width (take (cut_after i (first_end i (text_run k z))) text) < width (take (cut_after j (first_end j (text_run k z))) text))

-- So in a content block.
abbrev pub InnerCutsLaw : Type 0
InnerCutsLaw = (k : CharClasses) (levels : ℕ) (text : List ℕ) (c : Spot (Unit {0})) (i j : ℕ) → i < j → AllGo (first_of j (run_at k levels c (start_of text)))
    → (let z = start_of text in width (take (cut_after i (inner_end k levels i c z)) text) < width (take (cut_after j (inner_end k levels j c z)) text))

-- A note stands between the two notes of a content block, with a given number of notes of the block's run before it.
pub record InnerNumber (k : CharClasses) (levels : ℕ) (text : List ℕ) (c : Spot (Unit {0})) (i : ℕ) (n : NumberedInner k levels text c) (p : PieceNote (log k text) (suc levels) text (inner_end k levels i c (start_of text))) : Type 0 where
  pub mid : List Note
  pub more : List Note
  pub earlier : p.earlier ≡ n.earlier ++ n.opens ∷ mid
  pub inner : n.inner ≡ mid ++ p.note ∷ more
  pub number : length (of_level (suc levels) mid) ≡ i

-- The law of a note's number in a content block: so does a note where a given number of pieces of its run end, if they end before the block does.
abbrev pub InnerNumberLaw : Type 0
InnerNumberLaw = (k : CharClasses) (levels : ℕ) (text : List ℕ) (c : Spot (Unit {0})) (i : ℕ) → Among c (blocks_of_text k text) → c.name ≡ block.Content → max_depth - c.fewer ≡ suc levels
    → AllGo (first_of i (run_at k levels c (start_of text))) → (n : NumberedInner k levels text c) (p : PieceNote (log k text) (suc levels) text (inner_end k levels i c (start_of text)))
    → p.note.before < n.closes.before → InnerNumber k levels text c i n p
