-- What the program says if it fails, and what it leaves.
use Rattle.std.specs.Prelude.{◌≡◌, ◌≢◌, ◌⊎◌, ⊤, ℕ, List, codes, Option, None, Some, IsSome, IfSome}
use Rattle.std.specs.Io.KnownBytes.{Appends, Keeps}
use Rattle.std.specs.Str.{IsUtf8}
use Rattle.std.specs.declared.ops.Range.{Range}
use Rattle.typst_parser.specs.SourceError.{SourceError}
use Rattle.typst_parser.specs.SourceError.TheVariants as source_error
use Rattle.typst_parser.specs.UnicodeTables.{unicode_classes}
use Rattle.std.specs.Str.{chars}
use Rattle.typst_parser.specs.Grammar.{tree}
use Rattle.typst_parser.specs.Headline.{edited, numbered_in}
use Rattle.typst_report.specs.Streams.{Begins}
use Rattle.typst_report.specs.declared.streams.Unread.{Unread}
use Rattle.typst_report.specs.declared.streams.Unread.TheVariants as unread
use Rattle.typst_cli.specs.Asked.{Asked, about, edits}
use Rattle.typst_cli.specs.PrintedEdit.{IsRange, Prints}
use Rattle.typst_cli.specs.declared.failure.Failure.{Failure}
use Rattle.typst_cli.specs.declared.failure.Failure.TheVariants.{Usage, NotRead, NotUtf8, BadRange, OutOfSpanNumbers, OutOfMemory, NotWritten}

-- the exit status for a failure
abbrev pub status_of : Failure → ℕ
status_of Usage = 2
status_of _ = 1

-- the line on standard error for a failure
abbrev pub line_of : Failure → List ℕ
line_of Usage = codes "usage: typst_syn lines | tree | html | edit START END TEXT\n"
line_of NotRead = codes "read failed\n"
line_of NotUtf8 = codes "not UTF-8\n"
line_of BadRange = codes "bad range\n"
line_of OutOfSpanNumbers = codes "out of span numbers\n"
line_of OutOfMemory = codes "out of memory\n"
line_of NotWritten = codes "write failed\n"

-- the text or the edited text has more nodes than there are span numbers
abbrev pub LacksNumbers : Range ℕ → List ℕ → List ℕ → Type 0
LacksNumbers range with_text text =
    (numbered_in (Some 1) (tree unicode_classes (chars text)) ≡ None)
    ⊎ (numbered_in (Some 1) (tree unicode_classes (chars (edited text range with_text))) ≡ None)

-- why a text has no answer: memory was refused or, of an edit, the range isn't one of the text, or
-- it is one and there are too few numbers
abbrev pub IsAnswerFault : Failure → Asked → List ℕ → Type 0
IsAnswerFault OutOfMemory asked text = ⊤
IsAnswerFault BadRange (edits range with_text) text = ¬ (IsRange range text)
IsAnswerFault OutOfSpanNumbers (edits range with_text) text = IsRange range text × LacksNumbers range with_text text
IsAnswerFault _ asked text = ⊥

-- what a failure says of what is asked and of the input
abbrev pub TellsOf : Failure → Asked → Option (List ℕ) → Type 0
TellsOf Usage asked input = ⊥
TellsOf NotUtf8 asked input = IfSome input (λ bytes. ¬ (IsUtf8 bytes))
TellsOf BadRange asked input = IfSome input (λ text. IsUtf8 text × IsAnswerFault BadRange asked text)
TellsOf OutOfSpanNumbers asked input = IfSome input (λ text. IsUtf8 text × IsAnswerFault OutOfSpanNumbers asked text)
TellsOf _ asked input = ⊤

-- what a failure says of the words and of the input
abbrev pub Tells : Failure → Option Asked → Option (List ℕ) → Type 0
Tells failure None input = failure ≡ Usage
Tells failure (Some asked) input = TellsOf failure asked input

-- a failure of reading: the input could not be read, isn't UTF-8, or memory was refused
abbrev pub IsReadFault : Failure → Option (List ℕ) → Type 0
IsReadFault NotRead input = ⊤
IsReadFault NotUtf8 input = IfSome input (λ bytes. ¬ (IsUtf8 bytes))
IsReadFault OutOfMemory input = ⊤
IsReadFault _ input = ⊥

-- the failure if not all of the input was read
abbrev pub failure_of : Unread → Failure
failure_of (unread.Failed e) = NotRead
failure_of unread.OutOfMemory = OutOfMemory

-- the failure for an error of a source
abbrev pub failure_from : SourceError → Failure
failure_from source_error.OutOfMemory = OutOfMemory
failure_from source_error.SpanNumbers = OutOfSpanNumbers

-- the output grew by a whole answer about a text
abbrev pub Gives : Asked → List ℕ → Option (List ℕ) → Option (List ℕ) → Type 0
Gives asked text old new = (answer : List ℕ) × Prints asked text answer × Appends old new answer

-- the words ask for something, and the output grew by a whole answer about the input
abbrev pub IsAnswered : Option Asked → Option (List ℕ) → Option (List ℕ) → Option (List ℕ) → Type 0
IsAnswered None input old new = ⊥
IsAnswered (Some asked) input old new = IfSome input (λ text. IsUtf8 text × Gives asked text old new)

-- the output is as it was, or grew by a beginning of an answer about the input
abbrev pub Leaves : Option Asked → Option (List ℕ) → Option (List ℕ) → Option (List ℕ) → Type 0
Leaves None input old new = Keeps old new
Leaves (Some asked) input old new = IfSome input (λ text. Keeps old new ⊎ ((answer : List ℕ) × Prints asked text answer × Begins old new answer))

-- what a failure says holds, and only a failed write leaves anything in the output
pub record IsFault (failure : Failure) (asked : Option Asked) (input old new : Option (List ℕ)) : Type 0 where
  pub tells : Tells failure asked input
  pub kept : failure ≢ NotWritten → Keeps old new
