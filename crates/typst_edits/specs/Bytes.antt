-- The test of an edit in bytes, by the notes of a reading.
use Rattle.std.specs.Prelude.{◌≡◌, ℕ, suc, ◌+◌, ◌-◌, ◌<◌, ◌≤◌, ◌^◌, max, min, List, [], ◌∷◌, ◌++◌, length, take, Some}
use Rattle.typst_lines.specs.Classes.{CharClasses}
use Rattle.typst_tokens.specs.Sight.{width}
use Rattle.typst_language.specs.declared.calls.Mark.TheVariants as mark
use Rattle.typst_language.specs.declared.calls.Note.{Note}
use Rattle.typst_language.specs.Log.{Log}
use Rattle.typst_grammar.specs.Grammar.{max_depth, log}
use Rattle.typst_edits.specs.Edit.{Among, AllEndBy, AllBeginIn}
use Rattle.typst_edits.specs.Laws.{blocks_of_text}
use Rattle.typst_edits.specs.Splice.{notes_in}
use Rattle.typst_edits.specs.Spot.{Spot, unit_at}
use Rattle.typst_edits.specs.TextReplacement.{TextReplacement, text_before, start_before}

-- where the looks before some notes, and those since the last of them, end
abbrev pub highest : List Note → ℕ → ℕ
highest [] last = last
highest (n ∷ ns) last = max n.reach (highest ns last)

-- and where they begin
abbrev pub lowest : List Note → ℕ → ℕ
lowest [] last = last
lowest (n ∷ ns) last = min n.least (lowest ns last)

-- The two notes of a block that covers a stretch of a text, and what the numbers of all notes decide: where the stretch begins in
-- bytes with `reach` of those up to the first, and where it ends with `least` of those after the second.
pub record Decided {A : Type 0} (h : Log) (edit : TextReplacement) (c : Spot A) (past : ℕ) : Type 0 where
  pub earlier : List Note
  pub opens : Note
  pub inner : List Note
  pub closes : Note
  pub later : List Note
  pub notes : h.notes ≡ Some (earlier ++ opens ∷ (inner ++ closes ∷ later))
  -- the first says which block begins where, how many levels are left, and in which state
  pub name : opens.mark ≡ mark.Opens c.name
  pub start : opens.start ≡ width (take c.at (text_before edit))
  pub levels : opens.levels ≡ max_depth - c.fewer
  pub state : opens.state ≡ c.start
  -- the second says that it ends
  pub name_end : closes.mark ≡ mark.Closes
  pub end : closes.start ≡ width (take (c.at + (unit_at c (start_before edit)).taken) (text_before edit))
  -- as many notes stand before the first as are noted before the block, and as many between the two as its reading notes
  pub number : notes_in c.before ≡ suc (length earlier)
  pub long : length inner ≡ notes_in (unit_at c (start_before edit)).asks
  -- the two tests of looks
  pub before : highest earlier opens.reach ≤ width edit.front → AllEndBy (length edit.front) c.before
  pub after : width (edit.front ++ edit.old) < lowest later h.least → AllBeginIn past edit.rest c.after
  -- and the other way round, in a text that a machine word counts
  pub before_too : AllEndBy (length edit.front) c.before → highest earlier opens.reach ≤ width edit.front
  pub after_too : width (edit.front ++ edit.old) < 2 ^ 64 - 1 → AllBeginIn past edit.rest c.after → width (edit.front ++ edit.old) < lowest later h.least

-- The law of the decision: each block of a text has two notes, whose numbers say exactly whether what was looked at before it and after it passes the test.
abbrev pub DecisionLaw : Type 0
DecisionLaw = (k : CharClasses) (edit : TextReplacement) (c : Spot (Unit {0})) (past : ℕ) → Among c (blocks_of_text k (text_before edit))
    → (unit_at c (start_before edit)).taken + c.at ≡ (length edit.front + length edit.old) + past → Decided (log k (text_before edit)) edit c past
