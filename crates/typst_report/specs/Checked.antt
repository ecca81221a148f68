-- What is printed about a text.
use Rattle.std.specs.Prelude.{◌≡◌, ⊤, ℕ, List, [], Bool, Option, length}
use Rattle.std.specs.Io.KnownBytes.{Appends}
use Rattle.std.specs.Str.{chars}
use Rattle.typst_lines.specs.UnicodeTables.{unicode_classes}
use Rattle.typst_grammar.specs.Grammar.{tree}
use Rattle.typst_tree.specs.Tree.{Tree}
use Rattle.typst_report.specs.declared.form.Form.{Form}
use Rattle.typst_report.specs.declared.form.Options.{Options}
use Rattle.typst_report.specs.declared.tally.Counts.{Counts}
use Rattle.typst_report.specs.declared.tally.Tally.{Tally}
use Rattle.typst_report.specs.declared.form.Form.TheVariants as form
use Rattle.typst_report.specs.declared.form.Format.{Format}
use Rattle.typst_report.specs.declared.form.Format.TheVariants as format
use Rattle.typst_report.specs.Github as github
use Rattle.typst_report.specs.Ndjson as ndjson
use Rattle.typst_report.specs.Placed.{ArePlaced, Placed}
use Rattle.typst_report.specs.Short.{short_lines}
use Rattle.typst_report.specs.Tally.{with_file}
use Rattle.typst_report.specs.Reported.{Reported, error_count, fails, first, reported}
use Rattle.typst_report.specs.TreeLines.{tree_lines}

-- the findings of a file of that name, in each format
abbrev pub formatted : Format → List ℕ → List Placed → List ℕ
formatted (format.Short color) name placed = short_lines color name placed
formatted format.Ndjson name placed = ndjson.lines name placed
formatted format.Github name placed = github.commands name placed

-- the findings of a text, printed in a format with their places
pub record PrintsReported (f : Format) (name text : List ℕ) (all : List Reported) (printed : List ℕ) : Type 0 where
  pub placed : List Placed
  pub places : ArePlaced text all placed
  pub shown : printed ≡ formatted f name placed

-- what a form prints about a text with that tree, if these findings are shown; of a page nothing is
-- said
abbrev pub PrintsShown : Form → List ℕ → List ℕ → List Reported → Tree → List ℕ → Type 0
PrintsShown (form.Findings f) name text shown root printed = PrintsReported f name text shown printed
PrintsShown form.Tree name text shown root printed = printed ≡ tree_lines root
PrintsShown form.Page name text shown root printed = ⊤
PrintsShown form.Nothing name text shown root printed = printed ≡ []

-- what a form prints about a text with that tree, with all its findings
abbrev pub Prints : Form → List ℕ → List ℕ → Tree → List ℕ → Type 0
Prints f name text root printed = PrintsShown f name text (reported root) root printed

-- what a form prints about a text with that tree, with so many of its findings at most
abbrev pub PrintsUpTo : Form → Option ℕ → List ℕ → List ℕ → Tree → List ℕ → Type 0
PrintsUpTo f most name text root printed = PrintsShown f name text (first most (reported root)) root printed

-- whether the text fails is known, and the output grew by all that the form prints about it
pub record IsChecked (o : Options) (name text : List ℕ) (failing : Bool) (old new : Option (List ℕ)) : Type 0 where
  pub fails : failing ≡ fails o.denies_warnings text
  pub printed : List ℕ
  pub prints : PrintsUpTo o.form o.most name text (tree unicode_classes (chars text)) printed
  pub appended : Appends old new printed

-- how many errors a text has, and how many findings
pub record IsCounted (text : List ℕ) (counts : Counts) : Type 0 where
  pub errors : counts.errors ≡ error_count (reported (tree unicode_classes (chars text)))
  pub findings : counts.findings ≡ length (reported (tree unicode_classes (chars text)))

-- a tally with one more file, of that text
abbrev pub tallied : Tally → List ℕ → Tally
tallied t text = with_file t (error_count (reported (tree unicode_classes (chars text)))) (length (reported (tree unicode_classes (chars text))))
