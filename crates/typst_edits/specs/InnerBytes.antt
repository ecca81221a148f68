-- The test of an edit inside some pieces of a content block's run in bytes, by the notes of a reading.
use Rattle.std.specs.Prelude.{◌≡◌, ℕ, suc, ◌+◌, ◌-◌, ◌<◌, ◌≤◌, ◌^◌, Bool, List, ◌++◌, length, take, Some}
use Rattle.typst_lines.specs.Place.{Place}
use Rattle.typst_lines.specs.Classes.{CharClasses}
use Rattle.typst_tokens.specs.Sight.{width}
use Rattle.typst_language.specs.declared.calls.Block.TheVariants as block
use Rattle.typst_language.specs.Point.{Trivia, gap_of}
use Rattle.typst_grammar.specs.Grammar.{max_depth, log}
use Rattle.typst_edits.specs.BlockRuns.{run_at, opened_at, EndsBefore, BeginsAfter}
use Rattle.typst_edits.specs.Bytes.{highest, lowest}
use Rattle.typst_edits.specs.Edit.{Among}
use Rattle.typst_edits.specs.InnerJoint.{BeginsPast}
use Rattle.typst_edits.specs.Laws.{blocks_of_text}
use Rattle.typst_edits.specs.RunBytes.{PieceNote}
use Rattle.typst_edits.specs.Sequence.{first_of, first_end, then_of, then_end, AllGo, End, asks_of}
use Rattle.typst_edits.specs.Splice.{notes_in}
use Rattle.typst_edits.specs.Spot.{Spot}
use Rattle.typst_edits.specs.TextReplacement.{TextReplacement, text_before, start_before}

-- where the first i pieces of a block's run end, counted from the text's start
abbrev pub inner_end : {A : Type 0} → CharClasses → ℕ → ℕ → Spot A → Place → End (Bool × ℕ)
inner_end k levels i c z = let e = first_end i (run_at k levels c z) in record e { taken = opened_at k levels c z + e.taken }

-- where the n pieces after the first i end, counted from the text's start
abbrev pub inner_both : {A : Type 0} → CharClasses → ℕ → ℕ → ℕ → Spot A → Place → End (Bool × ℕ)
inner_both k levels i n c z = let r = run_at k levels c z in let e = then_end i n r in record e { taken = opened_at k levels c z + ((first_end i r).taken + e.taken) }

-- The notes where the n pieces after the first i of a content block's run begin and end, and what their numbers decide: where the stretch begins
-- in bytes with `reach`, and where it ends with `least`.
pub record DecidedInner (k : CharClasses) (levels : ℕ) (edit : TextReplacement) (c : Spot (Unit {0})) (i n : ℕ) : Type 0 where
  pub begins : PieceNote (log k (text_before edit)) (suc levels) (text_before edit) (inner_end k levels i c (start_before edit))
  pub ends : PieceNote (log k (text_before edit)) (suc levels) (text_before edit) (inner_both k levels i n c (start_before edit))
  -- the first says where the token after the first i pieces begins, and without any where the run does
  pub token : (let e = inner_end k levels i c (start_before edit) in 0 < i → begins.note.start ≡ width (take (e.taken + gap_of e.state.known) (text_before edit)))
  pub token_first : i ≡ 0 → begins.note.start ≡ width (take (inner_end k levels i c (start_before edit)).taken (text_before edit))
  -- the second says where the trivia after the pieces end
  pub trivia_end : (let e = inner_both k levels i n c (start_before edit) in 0 < i + n → ends.note.start ≡ width (take (e.taken + gap_of e.state.known) (text_before edit)))
  -- a given number of notes stand before them
  pub number : length begins.earlier ≡ notes_in c.before + notes_in (asks_of (first_of i (run_at k levels c (start_before edit))))
  pub number_end : length ends.earlier ≡ (notes_in c.before + notes_in (asks_of (first_of i (run_at k levels c (start_before edit))))) + notes_in (asks_of (then_of i n (run_at k levels c (start_before edit))))
  -- the test of looks before the pieces, in both directions
  pub before : highest begins.earlier begins.note.reach ≤ width edit.front → EndsBefore k levels edit c i
  pub before_too : EndsBefore k levels edit c i → highest begins.earlier begins.note.reach ≤ width edit.front
  -- the test of looks after pieces that go on past the stretch
  pub after : (past : ℕ) → (inner_both k levels i n c (start_before edit)).taken ≡ (length edit.front + length edit.old) + past
      → width (edit.front ++ edit.old) < lowest ends.later (log k (text_before edit)).least → BeginsAfter k levels edit c i n past
  pub after_too : (past : ℕ) → (inner_both k levels i n c (start_before edit)).taken ≡ (length edit.front + length edit.old) + past
      → 0 < i + n → width (edit.front ++ edit.old) < 2 ^ 64 - 1 → BeginsAfter k levels edit c i n past → width (edit.front ++ edit.old) < lowest ends.later (log k (text_before edit)).least
  -- and of looks after the trivia, where the pieces go on, with these, past the stretch
  pub after_trivia : (past : ℕ) (t : Trivia) → (let e = inner_both k levels i n c (start_before edit) in e.state.known ≡ Some t → e.taken + t.gap ≡ (length edit.front + length edit.old) + past
      → width (edit.front ++ edit.old) < lowest ends.later (log k (text_before edit)).least → BeginsPast k levels edit c i n past t)
  pub after_trivia_too : (past : ℕ) (t : Trivia) → (let e = inner_both k levels i n c (start_before edit) in e.state.known ≡ Some t → e.taken + t.gap ≡ (length edit.front + length edit.old) + past
      → 0 < i + n → width (edit.front ++ edit.old) < 2 ^ 64 - 1 → BeginsPast k levels edit c i n past t → width (edit.front ++ edit.old) < lowest ends.later (log k (text_before edit)).least)

-- The law of the decision in a content block: where pieces of its run begin and end stand notes, whose numbers say exactly whether what was looked at before them and after them, or after the trivia there, passes the test.
abbrev pub InnerDecisionLaw : Type 0
InnerDecisionLaw = (k : CharClasses) (levels : ℕ) (edit : TextReplacement) (c : Spot (Unit {0})) (i n : ℕ) → Among c (blocks_of_text k (text_before edit))
    → c.name ≡ block.Content → max_depth - c.fewer ≡ suc levels → AllGo (first_of i (run_at k levels c (start_before edit))) → AllGo (then_of i n (run_at k levels c (start_before edit)))
    → DecidedInner k levels edit c i n
