-- What an edit of a source answers.
use Rattle.std.specs.Prelude.{◌≡◌, ℕ, ◌-◌, true, false, List, length, take, drop, slice_range, Some}
use Rattle.std.specs.Str.{chars}
use Rattle.std.specs.declared.ops.Range.{Range}
use Rattle.typst_lines.specs.Classes.{CharClasses}
use Rattle.typst_lines.specs.Lines.{common_ends}
use Rattle.typst_edits.specs.Answer.{IsAnswer}
use Rattle.typst_parser.specs.TextReplacement.{TextReplacement, candidates}
use Rattle.typst_edits.specs.Grammar.{tree}
use Rattle.typst_parser.specs.Headline.{file_of, numbered_in}
use Rattle.typst_parser.specs.Held.{Held}

-- the edit of a text that puts another one in the place of a range of bytes
abbrev pub change_of : List ℕ → Range ℕ → List ℕ → TextReplacement
change_of text range new = record { front = chars (take range.start text); old = chars (drop range.start (take range.end text)); new = chars new; rest = chars (drop range.end text) }

-- With records an edit answers the first candidate that passes and finds numbers, as its range in
-- the new text; if there is none, and without records, it answers the whole new text, numbered in
-- the file of the root.
pub record Answers {C : Type 0} (k : CharClasses) (old new : Held C) (replace : Range ℕ) (with : List ℕ) (range : Range ℕ) : Type 0 where
  pub recorded : old.has_records ≡ true → (let c = change_of old.text replace with in IsAnswer k c (candidates k c old.root) old.root new.root range)
  pub unrecorded : old.has_records ≡ false → (range ≡ record { start = 0; end = length new.text }) × (numbered_in (file_of old.root) (tree k (chars new.text)) ≡ Some new.root)

-- Another text takes a text's place by one edit, of what the two don't have in common at the front
-- and at the end.
abbrev pub AnswersText : {C : Type 0} → CharClasses → Held C → Held C → List ℕ → Range ℕ → Type 0
AnswersText k old new text range =
    let ends = common_ends old.text text in
    Answers k old new (record { start = ends.0; end = length old.text - ends.1 }) (slice_range text ends.0 (length text - ends.1)) range
