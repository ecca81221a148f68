-- What an edit leaves of a text's units: those of its own part are exchanged, and all others stay.
use Rattle.std.specs.Prelude.{◌≡◌, ℕ, suc, ◌+◌, ◌-◌, ◌<◌, ◌≤◌, ◌^◌, List, [], ◌∷◌, ◌++◌, length, Option, Some, None}
use Rattle.typst_candidates.specs.Entries.{units_of, entries_by, spliced}
use Rattle.typst_candidates.specs.declared.entry.Entry.{Entry}
use Rattle.typst_lines.specs.Place.{Place, moved}
use Rattle.typst_tokens.specs.Sight.{width, position}
use Rattle.typst_language.specs.declared.calls.Mark.{Mark}
use Rattle.typst_language.specs.declared.calls.Note.{Note}
use Rattle.typst_language.specs.declared.reading.State.{State}
use Rattle.typst_language.specs.Ask.{Ask, shift}
use Rattle.typst_language.specs.Ask.Ask.{looked, marked}
use Rattle.typst_language.specs.Log.{no_log, logged}
use Rattle.typst_edits.specs.Edit.{AllEndBy, AllBeginIn}
use Rattle.typst_edits.specs.TextReplacement.{TextReplacement, text_before, text_after, start_before, start_after}

-- what one note says, and where
pub record Noting : Type 0 where
  pub at : ℕ
  pub gap : ℕ
  pub fewer : ℕ
  pub mark : Mark
  pub state : State

-- a note as an ask
abbrev pub noting : Noting → Ask
noting p = marked p.at p.gap p.fewer p.mark p.state

-- how many notes are made of what was asked
abbrev pub notes_in : List Ask → ℕ
notes_in [] = 0
notes_in (looked at look ∷ asks) = notes_in asks
notes_in (marked at gap fewer m s ∷ asks) = suc (notes_in asks)

-- every note's token begins a given number of characters further on, or before
abbrev pub AllNotedBy : ℕ → List Ask → Type 0
AllNotedBy n [] = Unit {0}
AllNotedBy n (looked at look ∷ asks) = AllNotedBy n asks
AllNotedBy n (marked at gap fewer m s ∷ asks) = (at + gap ≤ n) × AllNotedBy n asks

-- the byte at which a note's token begins
abbrev pub token_start : Place → Noting → ℕ
token_start z p = position (moved p.gap (moved p.at z))

-- the entries of some notes after a token that begins at a byte
abbrev pub entries_from : ℕ → Option (List Note) → List Entry
entries_from start None = []
entries_from start (Some ns) = entries_by start ns

-- THE LAW OF THE SPLICE: where what is asked of two texts up to a note is the same and lies before the stretch, and what is asked of them
-- after another note is the same and lies after the stretch, the units of the new text are those of the old one with those between the notes exchanged.
abbrev pub SpliceLaw : Type 0
SpliceLaw = (levels : ℕ) (edit : TextReplacement) (past gap : ℕ) (first second third last : List Ask) (p q r : Noting)
    → width (text_before edit) < 2 ^ 64 - 1 → width (text_after edit) < 2 ^ 64 - 1
    → AllEndBy (length edit.front) first → AllNotedBy (length edit.front) first → p.at + p.gap ≤ length edit.front
    → q.at + q.gap ≡ ((length edit.front + length edit.old) + past) + gap → r.at + r.gap ≡ ((length edit.front + length edit.new) + past) + gap → AllBeginIn past edit.rest last
    → (let z = start_before edit in
    let w = start_after edit in
    let was = units_of (logged levels z no_log (first ++ noting p ∷ (second ++ noting q ∷ shift ((length edit.front + length edit.old) + past) last))) in
    let now = units_of (logged levels w no_log (first ++ noting p ∷ (third ++ noting r ∷ shift ((length edit.front + length edit.new) + past) last))) in
    let part = entries_from (token_start w p) (logged levels w no_log (third ++ noting r ∷ [])).notes in
    now ≡ spliced (notes_in first) (suc (notes_in first + notes_in second)) part was)
