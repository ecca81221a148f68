-- A stretch of a text replaced, inside some pieces of its run.
use Rattle.std.specs.Prelude.{◌≡◌, ℕ, ◌+◌, ◌<◌, Bool, true, false, List, [], ◌∷◌, ◌++◌, length}
use Rattle.typst_lines.specs.Place.{Place, moved}
use Rattle.typst_lines.specs.Classes.{CharClasses}
use Rattle.typst_language.specs.declared.calls.Mark.TheVariants as mark
use Rattle.typst_language.specs.Ask.{shift}
use Rattle.typst_language.specs.Ask.Ask.{marked}
use Rattle.typst_language.specs.Depth.{is_end}
use Rattle.typst_language.specs.Hand.{AtHand}
use Rattle.typst_language.specs.Point.{Point, state_of}
use Rattle.typst_language.specs.Steps.{peek, flush_trivia}
use Rattle.typst_language.specs.Meaning.{Outcome, Meaning, plain, joined, repeated, start_point, run}
use Rattle.typst_grammar.specs.Markup.{markup_turn, markup_reading}
use Rattle.typst_grammar.specs.Grammar.{level_at, max_depth, parsed}
use Rattle.typst_edits.specs.Edit.{AllEndBy, AllBeginIn}
use Rattle.typst_edits.specs.Sequence.{Sequence, chain, first_of, first_end, then_of, then_end, rest_of, AllGo, asks_of}
use Rattle.typst_edits.specs.TextReplacement.{TextReplacement, text_before, text_after, start_before, start_after}

-- ---- the run of a text

-- a piece of it, with whether a line begins there and in how many brackets it stands
abbrev pub piece_at : CharClasses → Bool × ℕ → Meaning (Bool × (Bool × ℕ))
piece_at k x = run (level_at k max_depth) (markup_turn true is_end x)

-- the point where a text's run begins
abbrev pub start : Point
start = start_point markup_reading

-- the look at the first token, and the point after it
abbrev pub lead : CharClasses → Place → Outcome AtHand
lead k z = run (level_at k max_depth) peek z start

-- where it is read
abbrev pub text_run : CharClasses → Place → Sequence
text_run k z = record { level = level_at k max_depth; stops = is_end; place = z; point = (lead k z).state }

-- the trivia after the run, which ends so many characters on
abbrev pub tail : CharClasses → ℕ → Point → Place → Outcome (Unit {0})
tail k n s z = run (level_at k max_depth) flush_trivia (moved n z) s

-- a text's reading, by the look at its first token, its pieces, and the trivia after them
abbrev pub whole_of : Outcome AtHand → Outcome (Bool × ℕ) → Outcome (Unit {0}) → Outcome (Unit {0})
whole_of first r behind =
    joined (joined (plain false start) (joined (record (plain (tt {0}) start) { asks = marked 0 0 0 (mark.Piece true 0) (state_of start) ∷ [] }) (joined first (joined r (plain (tt {0}) r.state))))) behind

-- The test: n pieces follow the first i and end so many characters past a stretch `old`, which becomes `new`, and m pieces are to take their place.
pub record PassesRun (k : CharClasses) (edit : TextReplacement) (i n m past : ℕ) : Type 0 where
  -- these are pieces of the run, in both texts
  pub first_go : AllGo (first_of i (text_run k (start_before edit)))
  pub old_go : AllGo (then_of i n (text_run k (start_before edit)))
  pub new_go : AllGo (then_of i m (text_run k (start_after edit)))
  -- what was looked at before them ends at the stretch or before it; the look at the first token belongs to the first piece
  pub before : 0 < i → AllEndBy (length edit.front) ((lead k (start_before edit)).asks ++ asks_of (first_of i (text_run k (start_before edit))))
  -- what was looked at after them begins at the stretch's end or after it
  pub ends : (first_end i (text_run k (start_before edit))).taken + (then_end i n (text_run k (start_before edit))).taken ≡ (length edit.front + length edit.old) + past
  pub after : (let r = rest_of i n (text_run k (start_before edit)) in
      AllBeginIn past edit.rest (r.asks ++ shift r.taken (tail k (((length edit.front + length edit.old) + past) + r.taken) r.state (start_before edit)).asks))
  -- the new ones end at the shifted end, with what was carried there and in the same state
  pub shifted : (first_end i (text_run k (start_after edit))).taken + (then_end i m (text_run k (start_after edit))).taken ≡ (length edit.front + length edit.new) + past
  pub value : (then_end i m (text_run k (start_after edit))).value ≡ (then_end i n (text_run k (start_before edit))).value
  pub state : (then_end i m (text_run k (start_after edit))).state ≡ (then_end i n (text_run k (start_before edit))).state

-- What the readings of both texts are then.
pub record KeptRun (k : CharClasses) (edit : TextReplacement) (i n m past : ℕ) : Type 0 where
  -- the pieces before them are the same, and so is the look at the first token where there are some
  pub first : first_of i (text_run k (start_after edit)) ≡ first_of i (text_run k (start_before edit))
  pub lead_same : 0 < i → lead k (start_after edit) ≡ lead k (start_before edit)
  -- in the old text everything after them comes after the old pieces, and in the new text the same comes after the new ones
  pub was : (let z = start_before edit in
      let r = chain (first_of i (text_run k z)) (chain (then_of i n (text_run k z)) (rest_of i n (text_run k z))) in
      parsed k max_depth (text_before edit) ≡ whole_of (lead k z) r (tail k r.taken r.state z))
  pub now : (let z = start_before edit in
      let w = start_after edit in
      let r = chain (first_of i (text_run k z)) (chain (then_of i n (text_run k z)) (rest_of i n (text_run k z))) in
      parsed k max_depth (text_after edit) ≡ whole_of (lead k w) (chain (first_of i (text_run k z)) (chain (then_of i m (text_run k w)) (rest_of i n (text_run k z)))) (tail k r.taken r.state z))

-- What the reading of the new text is where nothing is kept after the first i pieces.
pub record KeptStart (k : CharClasses) (edit : TextReplacement) (i : ℕ) : Type 0 where
  pub first : first_of i (text_run k (start_after edit)) ≡ first_of i (text_run k (start_before edit))
  pub lead_same : 0 < i → lead k (start_after edit) ≡ lead k (start_before edit)
  pub now : (let w = start_after edit in
      let r = chain (first_of i (text_run k (start_before edit))) (rest_of i 0 (text_run k w)) in
      parsed k max_depth (text_after edit) ≡ whole_of (lead k w) r (tail k r.taken r.state w))

-- The law of a run's start: where what was looked at before the first i pieces end ends at the stretch or before it, the reading of the new text begins with them.
abbrev pub StartLaw : Type 0
StartLaw = (k : CharClasses) (edit : TextReplacement) (i : ℕ) → AllGo (first_of i (text_run k (start_before edit)))
    → (0 < i → AllEndBy (length edit.front) ((lead k (start_before edit)).asks ++ asks_of (first_of i (text_run k (start_before edit))))) → KeptStart k edit i

-- The run law: where an edit inside some pieces of a text's run passes the test, the reading of the new text has the new pieces in their place, and is the same before and after them.
abbrev pub RunLaw : Type 0
RunLaw = (k : CharClasses) (edit : TextReplacement) (i n m past : ℕ) → PassesRun k edit i n m past → KeptRun k edit i n m past
