-- Which refusal comes when.
use Rattle.std.specs.Prelude.{◌≡◌, ℕ, ◌-◌, ◌^◌, ◌≤◌, ◌<◌, List, length, Some, None}
use Rattle.std.specs.Str.{IsUtf8, IsCharBoundary, chars}
use Rattle.std.specs.declared.ops.Range.{Range}
use Rattle.typst_parser.specs.Grammar.{tree}
use Rattle.typst_parser.specs.Tree.{Tree, nodes}
use Rattle.typst_parser.specs.UnicodeTables.{unicode_classes}
use Rattle.typst_parser.specs.Headline.{edited, file_of, numbered_in}
use Rattle.typst_parser.specs.Held.{Held}
use Rattle.typst_c.specs.Positions.{IsByteAt, measure_code}
use Rattle.typst_c.specs.Trees.{tree_as}
use Rattle.typst_c.specs.declared.positions.Measure.{Measure}
use Rattle.typst_c.specs.declared.refusal.Refusal.{Refusal}
use Rattle.typst_c.specs.declared.refusal.Refusal.TheVariants as refusal

-- the codes that C sees
abbrev pub code_of : Refusal → ℕ
code_of refusal.NoMemory = 1
code_of refusal.NotUtf8 = 2
code_of refusal.BadRange = 3
code_of refusal.BadArgument = 4
code_of refusal.SpanNumbers = 5
code_of refusal.TooLarge = 6

-- what calls answer: 0, or the code of a refusal
abbrev pub IsCode : ℕ → Type 0
IsCode code = code < 7

abbrev pub no_memory : Refusal
no_memory = refusal.NoMemory

-- a text that has as many bytes as a record can count, or more
abbrev pub IsLarge : List ℕ → Type 0
IsLarge text = 2 ^ 32 - 1 ≤ length text

-- why bytes aren't read as a text
abbrev pub RefusesBytes : List ℕ → Refusal → Type 0
RefusesBytes text refusal.NoMemory = ⊥
RefusesBytes text refusal.NotUtf8 = IsUtf8 text → ⊥
RefusesBytes text refusal.BadRange = ⊥
RefusesBytes text refusal.BadArgument = ⊥
RefusesBytes text refusal.SpanNumbers = ⊥
RefusesBytes text refusal.TooLarge = IsLarge text

-- why a text isn't parsed: if it has a tree whose nodes can be counted, or none in this mode, it is too large only by
-- its bytes
abbrev pub RefusesParse : ℕ → List ℕ → Refusal → Type 0
RefusesParse mode text refusal.NoMemory = Unit {0}
RefusesParse mode text refusal.NotUtf8 = IsUtf8 text → ⊥
RefusesParse mode text refusal.BadRange = ⊥
RefusesParse mode text refusal.BadArgument = 2 < mode
RefusesParse mode text refusal.SpanNumbers = ⊥
RefusesParse mode text refusal.TooLarge = (tree_as mode text ≡ None → IsLarge text) × ((root : Tree) → tree_as mode text ≡ Some root → nodes root < 2 ^ 64 - 1 → IsLarge text)

-- why no source of a text is made
abbrev pub RefusesText : ℕ → List ℕ → Refusal → Type 0
RefusesText file text refusal.NoMemory = Unit {0}
RefusesText file text refusal.NotUtf8 = IsUtf8 text → ⊥
RefusesText file text refusal.BadRange = ⊥
RefusesText file text refusal.BadArgument = file ≡ 0
RefusesText file text refusal.SpanNumbers = numbered_in (Some file) (tree unicode_classes (chars text)) ≡ None
RefusesText file text refusal.TooLarge = IsLarge text

-- both ends of a range lie at characters of the text, the first before the other
pub record IsRange (text : List ℕ) (start end : ℕ) : Type 0 where
  pub from : IsCharBoundary text start
  pub to : IsCharBoundary text end
  pub ordered : start ≤ end

-- why a source isn't edited
abbrev pub RefusesEdit : {C : Type 0} → Held C → Range ℕ → List ℕ → Refusal → Type 0
RefusesEdit s range with refusal.NoMemory = Unit {0}
RefusesEdit s range with refusal.NotUtf8 = IsUtf8 with → ⊥
RefusesEdit s range with refusal.BadRange = IsRange s.text range.start range.end → ⊥
RefusesEdit s range with refusal.BadArgument = ⊥
RefusesEdit s range with refusal.SpanNumbers = numbered_in (file_of s.root) (tree unicode_classes (chars (edited s.text range with))) ≡ None
RefusesEdit s range with refusal.TooLarge = IsLarge (edited s.text range with)

-- why its text isn't replaced
abbrev pub RefusesReplace : {C : Type 0} → Held C → List ℕ → Refusal → Type 0
RefusesReplace s text refusal.NoMemory = Unit {0}
RefusesReplace s text refusal.NotUtf8 = IsUtf8 text → ⊥
RefusesReplace s text refusal.BadRange = ⊥
RefusesReplace s text refusal.BadArgument = ⊥
RefusesReplace s text refusal.SpanNumbers = numbered_in (file_of s.root) (tree unicode_classes (chars text)) ≡ None
RefusesReplace s text refusal.TooLarge = IsLarge text

-- why no page of a text is made
abbrev pub RefusesPage : List ℕ → Refusal → Type 0
RefusesPage text refusal.NoMemory = Unit {0}
RefusesPage text refusal.NotUtf8 = IsUtf8 text → ⊥
RefusesPage text refusal.BadRange = ⊥
RefusesPage text refusal.BadArgument = ⊥
RefusesPage text refusal.SpanNumbers = ⊥
RefusesPage text refusal.TooLarge = IsLarge text

-- why a byte has no position
abbrev pub RefusesPosition : List ℕ → ℕ → Refusal → Type 0
RefusesPosition text byte refusal.NoMemory = ⊥
RefusesPosition text byte refusal.NotUtf8 = ⊥
RefusesPosition text byte refusal.BadRange = IsCharBoundary text byte → ⊥
RefusesPosition text byte refusal.BadArgument = ⊥
RefusesPosition text byte refusal.SpanNumbers = ⊥
RefusesPosition text byte refusal.TooLarge = ⊥

-- why no byte stands at a column of a line
abbrev pub RefusesByte : ℕ → List ℕ → ℕ → ℕ → Refusal → Type 0
RefusesByte code text line column refusal.NoMemory = ⊥
RefusesByte code text line column refusal.NotUtf8 = ⊥
RefusesByte code text line column refusal.BadRange = (byte : ℕ) → IsByteAt code text line column byte → ⊥
RefusesByte code text line column refusal.BadArgument = (m : Measure) → measure_code m ≡ code → ⊥
RefusesByte code text line column refusal.SpanNumbers = ⊥
RefusesByte code text line column refusal.TooLarge = ⊥

-- why no records of a tree are given
abbrev pub RefusesRecords : Tree → Refusal → Type 0
RefusesRecords root refusal.NoMemory = Unit {0}
RefusesRecords root refusal.NotUtf8 = ⊥
RefusesRecords root refusal.BadRange = ⊥
RefusesRecords root refusal.BadArgument = ⊥
RefusesRecords root refusal.SpanNumbers = ⊥
RefusesRecords root refusal.TooLarge = 2 ^ 64 - 1 ≤ nodes root
