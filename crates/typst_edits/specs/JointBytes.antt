-- The test of an edit inside some pieces of a text's run and the trivia after them in bytes, by the notes of a reading.
use Rattle.std.specs.Prelude.{◌≡◌, ℕ, ◌+◌, ◌-◌, ◌<◌, ◌≤◌, ◌^◌, List, ◌++◌, length, take, Some}
use Rattle.typst_lines.specs.Place.{Place, moved}
use Rattle.typst_lines.specs.Classes.{CharClasses}
use Rattle.typst_tokens.specs.Sight.{width}
use Rattle.typst_language.specs.Ask.{Ask}
use Rattle.typst_language.specs.Point.{Trivia, gap_of}
use Rattle.typst_grammar.specs.Grammar.{max_depth, log}
use Rattle.typst_edits.specs.Bytes.{highest, lowest}
use Rattle.typst_edits.specs.Edit.{AllEndBy, AllBeginIn}
use Rattle.typst_edits.specs.Joint.{onwards, passed}
use Rattle.typst_edits.specs.RunBytes.{PieceNote, both_end}
use Rattle.typst_edits.specs.Runs.{lead, text_run}
use Rattle.typst_edits.specs.Sequence.{AllGo, asks_of, first_of, first_end, then_of, then_end, then_place}
use Rattle.typst_edits.specs.TextReplacement.{TextReplacement, text_before, start_before}

-- what is asked after the trivia that follow the n pieces after the first i
abbrev pub asked_past : CharClasses → ℕ → ℕ → Trivia → Place → List Ask
asked_past k i n t z = let e = then_end i n (text_run k z) in (onwards (text_run k z) e.value (moved t.gap (then_place i n (text_run k z))) (passed t e.state)).asks

-- The notes where the n pieces after the first i begin and end, and what their numbers decide of these pieces and the trivia after them: where
-- the stretch begins in bytes with `reach`, and where it ends with `least`.
pub record DecidedJoint (k : CharClasses) (edit : TextReplacement) (i n past : ℕ) (t : Trivia) : Type 0 where
  pub begins : PieceNote (log k (text_before edit)) max_depth (text_before edit) (first_end i (text_run k (start_before edit)))
  pub ends : PieceNote (log k (text_before edit)) max_depth (text_before edit) (both_end k i n edit)
  -- the first says where the token after the pieces before it begins
  pub token : (let e = first_end i (text_run k (start_before edit)) in 0 < i → begins.note.start ≡ width (take (e.taken + gap_of e.state.known) (text_before edit)))
  -- the second says where the trivia after the pieces end
  pub trivia_end : 0 < i + n → ends.note.start ≡ width (take ((both_end k i n edit).taken + t.gap) (text_before edit))
  -- the two tests of looks
  pub before : 0 < i → highest begins.earlier begins.note.reach ≤ width edit.front → AllEndBy (length edit.front) ((lead k (start_before edit)).asks ++ asks_of (first_of i (text_run k (start_before edit))))
  pub after : width (edit.front ++ edit.old) < lowest ends.later (log k (text_before edit)).least → AllBeginIn past edit.rest (asked_past k i n t (start_before edit))
  -- and the other way round: before the first piece nothing is asked of the looks, and the text is one that a machine word counts
  pub before_too : (0 < i → AllEndBy (length edit.front) ((lead k (start_before edit)).asks ++ asks_of (first_of i (text_run k (start_before edit))))) → highest begins.earlier begins.note.reach ≤ width edit.front
  pub after_too : 0 < i + n → width (edit.front ++ edit.old) < 2 ^ 64 - 1 → AllBeginIn past edit.rest (asked_past k i n t (start_before edit)) → width (edit.front ++ edit.old) < lowest ends.later (log k (text_before edit)).least

-- The law of the decision for the joint: where pieces of a text's run go on, with the trivia after them, past a stretch, the same two notes say exactly whether what was looked at before the pieces, and after the trivia, passes the test.
abbrev pub JointDecisionLaw : Type 0
JointDecisionLaw = (k : CharClasses) (edit : TextReplacement) (i n past : ℕ) (t : Trivia) → AllGo (first_of i (text_run k (start_before edit))) → AllGo (then_of i n (text_run k (start_before edit)))
    → (then_end i n (text_run k (start_before edit))).state.known ≡ Some t
    → ((first_end i (text_run k (start_before edit))).taken + (then_end i n (text_run k (start_before edit))).taken) + t.gap ≡ (length edit.front + length edit.old) + past → DecidedJoint k edit i n past t
