-- What the program prints.
use Rattle.std.specs.Prelude.{ℕ, List, codes, Option, Some, None, if◌then◌else◌}
use Rattle.std.specs.Str.{bytes_eq}
use Rattle.typst_parser.specs.UnicodeTables.{unicode_classes}
use Rattle.typst_report.specs.PrintedHtml.{html_printed}
use Rattle.typst_report.specs.PrintedLines.{lines_printed}
use Rattle.typst_report.specs.PrintedTree.{tree_printed}
use Rattle.typst_cli.specs.declared.command.Command.{Command}
use Rattle.typst_cli.specs.declared.command.Command.TheVariants.{Lines, Tree, Html}

-- the command that is named by one word
abbrev pub command_named : List ℕ → Option Command
command_named word = if bytes_eq word (codes "lines") then Some Lines else (if bytes_eq word (codes "tree") then Some Tree else (if bytes_eq word (codes "html") then Some Html else None))

-- all that a command prints about a text, by the classes of Unicode
abbrev pub printed : Command → List ℕ → List ℕ
printed Lines text = lines_printed text
printed Tree text = tree_printed unicode_classes text
printed Html text = html_printed unicode_classes text
