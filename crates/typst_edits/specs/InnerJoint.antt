-- Pieces of a content block's run that are read again, and what is after them, where other trivia or other errors stand between them than before.
use Rattle.std.specs.Prelude.{ℕ, ◌+◌, List, ◌++◌}
use Rattle.typst_lines.specs.Place.{Place, moved}
use Rattle.typst_lines.specs.Classes.{CharClasses}
use Rattle.typst_language.specs.Ask.{shift}
use Rattle.typst_language.specs.Point.{Trivia, Point}
use Rattle.typst_language.specs.Meaning.{Outcome}
use Rattle.typst_edits.specs.BlockRuns.{inner_run, run_at, close_at}
use Rattle.typst_edits.specs.Edit.{AllBeginIn}
use Rattle.typst_edits.specs.Joint.{onwards, passed}
use Rattle.typst_edits.specs.Runs.{text_run}
use Rattle.typst_edits.specs.Sequence.{Sequence, then_end, then_place}
use Rattle.typst_edits.specs.Spot.{Spot}
use Rattle.typst_edits.specs.TextReplacement.{TextReplacement, start_before}

-- A run of a text, or of a content block, wherever it is read.
pub data IsRun (k : CharClasses) : Sequence → Type 0 where
  is_text_run : (z : Place) → IsRun k (text_run k z)
  is_block_run : (levels : ℕ) (z : Place) (s : Point) → IsRun k (inner_run k levels z s)

-- everything after these trivia, which follow those pieces, up to the closing bracket
abbrev pub onwards_past : {A : Type 0} → CharClasses → ℕ → ℕ → ℕ → Trivia → Spot A → Place → Outcome (Unit {0})
onwards_past k levels i n t c z =
    let r = run_at k levels c z in
    let e = then_end i n r in
    onwards r e.value (moved t.gap (then_place i n r)) (passed t e.state)

-- how much the block takes after these trivia
abbrev pub left_past : {A : Type 0} → CharClasses → ℕ → ℕ → ℕ → Trivia → Spot A → Place → ℕ
left_past k levels i n t c z = (onwards_past k levels i n t c z).taken + (close_at k levels i n c z).taken

-- What is looked at after these trivia, in the block and after it, begins at the stretch's end or after it; they end so many characters past it.
pub record BeginsPast (k : CharClasses) (levels : ℕ) (edit : TextReplacement) (c : Spot (Unit {0})) (i n past : ℕ) (t : Trivia) : Type 0 where
  pub inside : (let z = start_before edit in let o = onwards_past k levels i n t c z in AllBeginIn past edit.rest (o.asks ++ shift o.taken (close_at k levels i n c z).asks))
  pub behind : AllBeginIn (past + left_past k levels i n t c (start_before edit)) edit.rest c.after
