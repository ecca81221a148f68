-- What an edit inside some pieces of a run leaves of a text's units.
use Rattle.std.specs.Prelude.{◌≡◌, ℕ, zero, suc, ◌+◌, ◌-◌, ◌<◌, ◌^◌, true, List, ◌++◌}
use Rattle.typst_candidates.specs.Entries.{units_of, spliced}
use Rattle.typst_lines.specs.Classes.{CharClasses}
use Rattle.typst_lines.specs.Place.{Place, moved}
use Rattle.typst_tokens.specs.Sight.{width}
use Rattle.typst_language.specs.declared.calls.Block.TheVariants as block
use Rattle.typst_language.specs.declared.calls.Mark.TheVariants as mark
use Rattle.typst_language.specs.Ask.{Ask, shift}
use Rattle.typst_language.specs.Log.{Log, no_log, logged}
use Rattle.typst_language.specs.Meaning.{hand_asks_of}
use Rattle.typst_language.specs.Point.{Trivia, Point, point_of, gap_of, state_of}
use Rattle.typst_grammar.specs.Grammar.{max_depth, log}
use Rattle.typst_edits.specs.BlockRuns.{bracket, inner_lead, run_at, opened_at}
use Rattle.typst_edits.specs.BlockSplice.{SplicedBlock}
use Rattle.typst_edits.specs.Edit.{Among}
use Rattle.typst_edits.specs.Frame.{Run, top, inner, read_as}
use Rattle.typst_edits.specs.Joint.{is_over_at}
use Rattle.typst_edits.specs.Joins.{PassesJoint}
use Rattle.typst_edits.specs.Laws.{blocks_of_text}
use Rattle.typst_edits.specs.Runs.{start, lead, text_run}
use Rattle.typst_edits.specs.Sequence.{Sequence, asks_of, first_of, first_end, then_of, then_end, then_place}
use Rattle.typst_edits.specs.Splice.{Noting, notes_in, token_start, entries_from}
use Rattle.typst_edits.specs.Spot.{Spot}
use Rattle.typst_edits.specs.TextReplacement.{TextReplacement, text_before, text_after, start_before, start_after}

-- ---- the notes of any run

-- the point where i pieces are noted: where they end, and without any where the run begins
abbrev pub noted_at : Sequence → Point → ℕ → Point
noted_at r first zero = first
noted_at r first (suc i) = (first_end (suc i) r).state

-- the note where i pieces end, and without any the note where the run begins
abbrev pub note_at : Sequence → Point → ℕ → Noting
note_at r first i = let e = first_end i r in let s = noted_at r first i in record { at = e.taken; gap = gap_of s.known; fewer = 0; mark = mark.Piece e.value.0 e.value.1; state = state_of s }

-- what is looked at after that note, before the next piece: the token at hand, and before the first piece what the run looks at first
abbrev pub looks_next : Sequence → List Ask → ℕ → List Ask
looks_next r lead zero = lead
looks_next r lead (suc i) = let e = first_end (suc i) r in shift e.taken (hand_asks_of r.level (moved e.taken r.place) e.state)

-- what is asked after that note up to the end of n more pieces
abbrev pub own_of : Sequence → List Ask → ℕ → ℕ → List Ask
own_of r lead i n = looks_next r lead i ++ shift (first_end i r).taken (asks_of (then_of i n r))

-- ---- those of a text's run, in the whole text

-- how many levels are left for what is called in it
abbrev pub levels_of : {k : CharClasses} {text : List ℕ} → Run k text → ℕ
levels_of {k} {text} top = max_depth
levels_of {k} {text} (inner c levels a n l) = suc levels

-- the note where i pieces end
abbrev pub end_note : {k : CharClasses} {text : List ℕ} → Run k text → ℕ → Place → Noting
end_note {k} {text} top i z = note_at (text_run k z) start i
end_note {k} {text} (inner c levels a n l) i z =
    let p = note_at (run_at k levels c z) (bracket k levels (moved c.at z) (point_of c.start)).state i in
    record p { at = opened_at k levels c z + p.at; fewer = c.fewer }

-- how many notes stand before it
abbrev pub number_at : {k : CharClasses} {text : List ℕ} → Run k text → ℕ → Place → ℕ
number_at {k} {text} top i z = notes_in (asks_of (first_of i (text_run k z)))
number_at {k} {text} (inner c levels a n l) i z = notes_in c.before + notes_in (asks_of (first_of i (run_at k levels c z)))

-- what is logged of the n pieces after the first i, after that note
abbrev pub pieces_log : {k : CharClasses} {text : List ℕ} → Run k text → ℕ → ℕ → Place → Log
pieces_log {k} {text} top i n z = logged max_depth z no_log (own_of (text_run k z) (lead k z).asks i n)
pieces_log {k} {text} (inner c levels a b l) i n z =
    let r = run_at k levels c z in
    logged (suc levels) r.place no_log (own_of r (inner_lead k levels (moved c.at z) (point_of c.start)).asks i n)

-- what lets the note of a run without a piece be exchanged: a text's own run ends after the first i pieces and n
-- more; in a content block no trivia stand after the bracket
abbrev pub EndsBare : {k : CharClasses} {text : List ℕ} → Run k text → ℕ → ℕ → Trivia → Place → Type 0
EndsBare {k} {text} top i n t z = is_over_at (text_run k z) (then_place i n (text_run k z)) (then_end i n (text_run k z)) ≡ true
EndsBare {k} {text} (inner c levels a b l) i n t z = t.gap ≡ 0

-- The entries of the old pieces are exchanged for those of the new ones on the new text, after the note where the pieces before them end.
abbrev pub SplicedRun : (k : CharClasses) (edit : TextReplacement) → Run k (text_before edit) → ℕ → ℕ → ℕ → Type 0
SplicedRun k edit r i n m =
    let z = start_before edit in
    let w = start_after edit in
    let from = number_at r i z in
    let part = entries_from (token_start w (end_note r i w)) (pieces_log r i m w).notes in
    units_of (log k (text_after edit)) ≡ spliced from (from + notes_in (asks_of (then_of i n (read_as r z)))) part (units_of (log k (text_before edit)))

-- The law of a splice of pieces: where an edit inside some pieces of a run passes the test, in texts that a machine word counts, the units of the new text are the old ones with the pieces' exchanged, if it ends bare where at its start no piece was or none is read.
abbrev pub RunSpliceLaw : Type 0
RunSpliceLaw = (k : CharClasses) (edit : TextReplacement) (r : Run k (text_before edit)) (i n m past : ℕ) (t u : Trivia) → PassesJoint k edit r i n m past t u
    → (i + n ≡ 0 → EndsBare r i n t (start_before edit)) → (i + m ≡ 0 → EndsBare r i n u (start_before edit))
    → width (text_before edit) < 2 ^ 64 - 1 → width (text_after edit) < 2 ^ 64 - 1 → SplicedRun k edit r i n m

-- The law of the splice of pieces' block: whatever stands there, the units of the new text are the old ones with the whole block's exchanged.
abbrev pub AroundSpliceLaw : Type 0
AroundSpliceLaw = (k : CharClasses) (levels : ℕ) (edit : TextReplacement) (c : Spot (Unit {0})) (among : Among c (blocks_of_text k (text_before edit))) (name : c.name ≡ block.Content) (level : max_depth - c.fewer ≡ suc levels) (i n m past : ℕ) (t u : Trivia)
    → PassesJoint k edit (inner c levels among name level) i n m past t u
    → width (text_before edit) < 2 ^ 64 - 1 → width (text_after edit) < 2 ^ 64 - 1 → SplicedBlock k edit c
