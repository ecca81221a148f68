-- What is printed about a text, or about an edit of it.
use Rattle.std.specs.Prelude.{◌≡◌, ◌≤◌, ℕ, List, ◌++◌, length, codes, true, Some}
use Rattle.std.specs.Str.{IsCharBoundary, chars}
use Rattle.std.specs.Fmt.{decimal}
use Rattle.std.specs.declared.ops.Range.{Range}
use Rattle.typst_lines.specs.declared.by_unicode.UnicodeClasses.{UnicodeClasses}
use Rattle.typst_parser.specs.UnicodeTables.{unicode_classes}
use Rattle.typst_parser.specs.Answers.{Answers}
use Rattle.typst_parser.specs.Grammar.{tree}
use Rattle.typst_parser.specs.Headline.{edited, numbered_in}
use Rattle.typst_parser.specs.Held.{Held}
use Rattle.typst_report.specs.PrintedTree.{tree_printed}
use Rattle.typst_cli.specs.Asked.{Asked, about, edits}
use Rattle.typst_cli.specs.Printed.{printed}

-- a range of the text's bytes, with both ends on boundaries of its characters
pub record IsRange (range : Range ℕ) (text : List ℕ) : Type 0 where
  pub ordered : range.start ≤ range.end
  pub start : IsCharBoundary text range.start
  pub end : IsCharBoundary text range.end

-- a line with the ends of a range
abbrev pub range_line : Range ℕ → List ℕ
range_line range = decimal range.start ++ (codes ".." ++ (decimal range.end ++ codes "\n"))

-- a line with the ends of a range, and then the tree of a text
abbrev pub edit_printed : Range ℕ → List ℕ → List ℕ
edit_printed parsed text = range_line parsed ++ tree_printed unicode_classes text

-- a source that is made of a whole text, as `detached` makes it: with records, and the text's tree
-- is numbered in file 1
pub record IsMadeOf (text : List ℕ) (source : Held UnicodeClasses) : Type 0 where
  pub text_is : source.text ≡ text
  pub root_is : numbered_in (Some 1) (tree unicode_classes (chars source.text)) ≡ Some source.root
  pub recorded : source.has_records ≡ true

-- the range that an edit parses again: the one that `Source::edit` answers for a source made of the whole text
pub record IsParsedAnew (range : Range ℕ) (with_text text : List ℕ) (parsed : Range ℕ) : Type 0 where
  pub before : Held UnicodeClasses
  pub after : Held UnicodeClasses
  pub made : IsMadeOf text before
  pub answer : Answers unicode_classes before after range with_text parsed

-- what an edit prints: the range of the new text that it parses again, and the new text's tree
pub record PrintsEdit (range : Range ℕ) (with_text text answer : List ℕ) : Type 0 where
  pub fits : IsRange range text
  pub parsed : Range ℕ
  pub anew : IsParsedAnew range with_text text parsed
  pub ordered : parsed.start ≤ parsed.end
  pub within : parsed.end ≤ length (edited text range with_text)
  pub printed : answer ≡ edit_printed parsed (edited text range with_text)

-- what may be printed about a text
abbrev pub Prints : Asked → List ℕ → List ℕ → Type 0
Prints (about command) text answer = answer ≡ printed command text
Prints (edits range with_text) text answer = PrintsEdit range with_text text answer
