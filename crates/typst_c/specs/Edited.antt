-- What an edit of a source leaves, and which bytes are given for it.
use Rattle.std.specs.Prelude.{◌≡◌, ℕ, List, true}
use Rattle.std.specs.declared.ops.Range.{Range}
use Rattle.typst_lines.specs.declared.by_unicode.UnicodeClasses.{UnicodeClasses}
use Rattle.typst_parser.specs.UnicodeTables.{unicode_classes}
use Rattle.typst_parser.specs.Headline.{Headline, edited}
use Rattle.typst_parser.specs.Answers.{Answers, AnswersText}
use Rattle.typst_parser.specs.Held.{Held}
use Rattle.typst_flat.specs.declared.records.Stretch.{Stretch}

-- a stretch as a range of bytes
abbrev pub range_of : Stretch → Range ℕ
range_of told = record { start = told.start; end = told.end }

-- there is a source of the text that an edit makes, with its headline, and the bytes that are given are the edit's answer
pub record IsEdited (before : Held UnicodeClasses) (range : Range ℕ) (with : List ℕ) (told : Stretch) : Type 0 where
  pub after : Held UnicodeClasses
  pub text : after.text ≡ edited before.text range with
  pub headline : Headline unicode_classes after
  pub answer : Answers unicode_classes before after range with (range_of told)

-- there is a source of another text, and the bytes that are given are the answer of the edit that makes it, if it differs
pub record IsReplaced (before : Held UnicodeClasses) (text : List ℕ) (told : Stretch) : Type 0 where
  pub after : Held UnicodeClasses
  pub text_is : after.text ≡ text
  pub headline : after.has_records ≡ true → Headline unicode_classes after
  pub answer : (before.text ≡ text → ⊥) → AnswersText unicode_classes before after text (range_of told)
