-- What reading a part of a text leaves.
use Rattle.std.specs.Prelude.{◌≡◌, ℕ, ◌-◌, ◌<◌, ◌^◌, true, List, length, Option, Some, None}
use Rattle.std.specs.declared.ops.Range.{Range}
use Rattle.typst_lines.specs.Classes.{CharClasses}
use Rattle.typst_edits.specs.Answer.{IsAnswer}
use Rattle.typst_parser.specs.TextReplacement.{TextReplacement, candidates}
use Rattle.typst_parser.specs.Reparse.{NonePasses}
use Rattle.typst_parser.specs.Answers.{change_of}
use Rattle.typst_parser.specs.Held.{Held}
use Rattle.typst_parser.specs.Records.{Edits, IsEdited}
use Rattle.typst_parser.specs.declared.replacement.Replacement.{Replacement}

-- the edit that replaced a stretch of a text
abbrev pub change_by : {old new : List ℕ} {e : Replacement} → IsEdited old new e → TextReplacement
change_by {old} {new} {e} h = change_of old (record { start = e.start; end = e.old_end }) h.with

-- If a part was read, the source has the new text; else nothing changed.
abbrev pub Tries : {C : Type 0} → CharClasses → Held C → Held C → List ℕ → Option (Range ℕ) → Type 0
Tries k old new text (Some range) = Edits k old new text range
Tries k old new text None = new ≡ old

-- What is read is the answer of an edit. If nothing is read and there are records, no candidate
-- passes whose nodes find numbers, unless the text is one that no machine word counts.
abbrev pub AnswersEdit : {C : Type 0} → CharClasses → Held C → Held C → List ℕ → TextReplacement → Option (Range ℕ) → Type 0
AnswersEdit k old new text c (Some range) = (old.has_records ≡ true) × IsAnswer k c (candidates k c old.root) old.root new.root range
AnswersEdit k old new text c None = old.has_records ≡ true → length text < 2 ^ 64 - 1 → NonePasses k c old.root
