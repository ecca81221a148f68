-- The test of an edit inside some pieces of a text's run in bytes, by the notes of a reading.
use Rattle.std.specs.Prelude.{◌≡◌, ℕ, ◌+◌, ◌-◌, ◌<◌, ◌≤◌, ◌^◌, Bool, List, ◌∷◌, ◌++◌, length, take, Some}
use Rattle.typst_lines.specs.Classes.{CharClasses}
use Rattle.typst_tokens.specs.Sight.{width}
use Rattle.typst_language.specs.declared.calls.Mark.TheVariants as mark
use Rattle.typst_language.specs.declared.calls.Note.{Note}
use Rattle.typst_language.specs.Ask.{shift}
use Rattle.typst_language.specs.Log.{Log}
use Rattle.typst_language.specs.Point.{state_of}
use Rattle.typst_grammar.specs.Grammar.{max_depth, log}
use Rattle.typst_edits.specs.Bytes.{highest, lowest}
use Rattle.typst_edits.specs.Edit.{AllEndBy, AllBeginIn}
use Rattle.typst_edits.specs.Runs.{lead, tail, text_run}
use Rattle.typst_edits.specs.Sequence.{AllGo, End, asks_of, first_of, first_end, then_of, then_end, rest_of}
use Rattle.typst_edits.specs.TextReplacement.{TextReplacement, text_before, start_before}

-- The note of a text's log where some pieces of a run end, and the next begins or the run ends; a given number of levels are left there.
pub record PieceNote (h : Log) (left : ℕ) (text : List ℕ) (e : End (Bool × ℕ)) : Type 0 where
  pub earlier : List Note
  pub note : Note
  pub later : List Note
  pub notes : h.notes ≡ Some (earlier ++ note ∷ later)
  -- it says what is carried there, where the trivia before the next piece begin, how many levels are left, and the state
  pub mark : note.mark ≡ mark.Piece e.value.0 e.value.1
  pub before : note.before ≡ width (take e.taken text)
  pub levels : note.levels ≡ left
  pub state : note.state ≡ state_of e.state

-- where the n pieces after the first i end, of a text that is given in three parts
abbrev pub both_end : CharClasses → ℕ → ℕ → TextReplacement → End (Bool × ℕ)
both_end k i n edit = let z = start_before edit in record (then_end i n (text_run k z)) { taken = (first_end i (text_run k z)).taken + (then_end i n (text_run k z)).taken }

-- The notes where the n pieces after the first i begin and end, and what their numbers decide: where the stretch begins in bytes with `reach`,
-- and where it ends with `least`.
pub record DecidedRun (k : CharClasses) (edit : TextReplacement) (i n past : ℕ) : Type 0 where
  pub begins : PieceNote (log k (text_before edit)) max_depth (text_before edit) (first_end i (text_run k (start_before edit)))
  pub ends : PieceNote (log k (text_before edit)) max_depth (text_before edit) (both_end k i n edit)
  -- the two tests of looks
  pub before : 0 < i → highest begins.earlier begins.note.reach ≤ width edit.front → AllEndBy (length edit.front) ((lead k (start_before edit)).asks ++ asks_of (first_of i (text_run k (start_before edit))))
  pub after : width (edit.front ++ edit.old) < lowest ends.later (log k (text_before edit)).least
      → (let r = rest_of i n (text_run k (start_before edit)) in
      AllBeginIn past edit.rest (r.asks ++ shift r.taken (tail k (((length edit.front + length edit.old) + past) + r.taken) r.state (start_before edit)).asks))
  -- and the other way round: before the first piece nothing is asked of the looks, and the text is one that a machine word counts
  pub before_too : (0 < i → AllEndBy (length edit.front) ((lead k (start_before edit)).asks ++ asks_of (first_of i (text_run k (start_before edit))))) → highest begins.earlier begins.note.reach ≤ width edit.front
  pub after_too : 0 < i + n → width (edit.front ++ edit.old) < 2 ^ 64 - 1
      → (let r = rest_of i n (text_run k (start_before edit)) in
      AllBeginIn past edit.rest (r.asks ++ shift r.taken (tail k (((length edit.front + length edit.old) + past) + r.taken) r.state (start_before edit)).asks))
      → width (edit.front ++ edit.old) < lowest ends.later (log k (text_before edit)).least

-- The law of the decision for runs: where pieces of a text's run begin and end stand notes, whose numbers say exactly whether what was looked at before them and after them passes the test.
abbrev pub RunDecisionLaw : Type 0
RunDecisionLaw = (k : CharClasses) (edit : TextReplacement) (i n past : ℕ) → AllGo (first_of i (text_run k (start_before edit))) → AllGo (then_of i n (text_run k (start_before edit)))
    → (first_end i (text_run k (start_before edit))).taken + (then_end i n (text_run k (start_before edit))).taken ≡ (length edit.front + length edit.old) + past → DecidedRun k edit i n past
