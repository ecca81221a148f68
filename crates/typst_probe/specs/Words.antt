-- The words of the program, and what they answer.
use Rattle.std.specs.Prelude.{ℕ, List, codes, Option, None, Some, option_map, if◌then◌else◌}
use Rattle.std.specs.Str.{bytes_eq}
use Rattle.typst_lines.specs.UnicodeTables.{unicode_classes}
use Rattle.typst_edited.specs.Printed.{printed}
use Rattle.typst_edited.specs.PrintedTree.{code_tree_printed, math_tree_printed}
use Rattle.typst_edited.specs.Command.TheVariants as command
use Rattle.typst_probe.specs.declared.word.Word.{Word}
use Rattle.typst_probe.specs.declared.word.Word.TheVariants as word
use Rattle.typst_probe.specs.declared.word.printed_word.PrintedWord.{PrintedWord}
use Rattle.typst_probe.specs.declared.word.printed_word.PrintedWord.TheVariants as printed_word
use Rattle.typst_probe.specs.declared.word.read_word.ReadWord.{ReadWord}
use Rattle.typst_probe.specs.declared.word.read_word.ReadWord.TheVariants as read_word
use Rattle.typst_probe.specs.declared.word.tree_word.TreeWord.{TreeWord}
use Rattle.typst_probe.specs.declared.word.tree_word.TreeWord.TheVariants as tree_word
use Rattle.typst_probe.specs.declared.word.edit_word.EditWord.{EditWord}
use Rattle.typst_probe.specs.declared.word.edit_word.EditWord.TheVariants as edit_word
use Rattle.typst_probe.specs.declared.word.program_word.ProgramWord.{ProgramWord}
use Rattle.typst_probe.specs.declared.word.program_word.ProgramWord.TheVariants as program_word

-- the word that a name stands for, of those for what is printed
abbrev pub printed_word_named : List ℕ → Option PrintedWord
printed_word_named name =
    if bytes_eq name (codes "tree") then Some printed_word.Tree
    else (if bytes_eq name (codes "tree-code") then Some printed_word.TreeCode
    else (if bytes_eq name (codes "tree-math") then Some printed_word.TreeMath
    else (if bytes_eq name (codes "lines") then Some printed_word.Lines
    else (if bytes_eq name (codes "html") then Some printed_word.Html
    else None))))

-- the word that a name stands for, of those for how a text is read
abbrev pub read_word_named : List ℕ → Option ReadWord
read_word_named name =
    if bytes_eq name (codes "tree-wide") then Some read_word.TreeWide
    else (if bytes_eq name (codes "tree-narrow") then Some read_word.TreeNarrow
    else (if bytes_eq name (codes "tree-math-wide") then Some read_word.TreeMathWide
    else (if bytes_eq name (codes "tree-math-narrow") then Some read_word.TreeMathNarrow
    else (if bytes_eq name (codes "tokens") then Some read_word.Tokens
    else (if bytes_eq name (codes "tokens-wide") then Some read_word.TokensWide
    else (if bytes_eq name (codes "tokens-narrow") then Some read_word.TokensNarrow
    else (if bytes_eq name (codes "tokens-code") then Some read_word.TokensCode
    else (if bytes_eq name (codes "tokens-math") then Some read_word.TokensMath
    else (if bytes_eq name (codes "look") then Some read_word.Look
    else None)))))))))

-- the word that a name stands for, of those that print something of a tree
abbrev pub tree_word_named : List ℕ → Option TreeWord
tree_word_named name =
    if bytes_eq name (codes "link") then Some tree_word.Link
    else (if bytes_eq name (codes "stretches") then Some tree_word.Stretches
    else (if bytes_eq name (codes "notes") then Some tree_word.Notes
    else (if bytes_eq name (codes "tags") then Some tree_word.Tags
    else (if bytes_eq name (codes "tagged") then Some tree_word.Tagged
    else (if bytes_eq name (codes "candidates") then Some tree_word.Candidates
    else (if bytes_eq name (codes "spans") then Some tree_word.Spans
    else (if bytes_eq name (codes "ranges") then Some tree_word.Ranges
    else (if bytes_eq name (codes "depths") then Some tree_word.Depths
    else (if bytes_eq name (codes "size") then Some tree_word.Size
    else (if bytes_eq name (codes "asked") then Some tree_word.Asked
    else (if bytes_eq name (codes "again") then Some tree_word.Again
    else (if bytes_eq name (codes "leaves") then Some tree_word.Leaves
    else (if bytes_eq name (codes "kinds") then Some tree_word.Kinds
    else (if bytes_eq name (codes "tag-list") then Some tree_word.TagList
    else None))))))))))))))

-- the word that a name stands for, of those for what edits answer
abbrev pub edit_word_named : List ℕ → Option EditWord
edit_word_named name =
    if bytes_eq name (codes "edit") then Some edit_word.Edit
    else (if bytes_eq name (codes "edit-wide") then Some edit_word.EditWide
    else (if bytes_eq name (codes "edit-narrow") then Some edit_word.EditNarrow
    else (if bytes_eq name (codes "edit-spans") then Some edit_word.EditSpans
    else (if bytes_eq name (codes "edits") then Some edit_word.Edits
    else (if bytes_eq name (codes "in-a-row") then Some edit_word.InARow
    else (if bytes_eq name (codes "handed") then Some edit_word.Handed
    else (if bytes_eq name (codes "example") then Some edit_word.Example
    else (if bytes_eq name (codes "calls") then Some edit_word.Calls
    else (if bytes_eq name (codes "everywhere") then Some edit_word.Everywhere
    else (if bytes_eq name (codes "everywhere-in-turn") then Some edit_word.EverywhereInTurn
    else (if bytes_eq name (codes "everywhere-at") then Some edit_word.EverywhereAt
    else (if bytes_eq name (codes "edit-lines") then Some edit_word.EditLines
    else (if bytes_eq name (codes "chain") then Some edit_word.Chain
    else None)))))))))))))

-- the word that a name stands for, of those for what programs and calls answer
abbrev pub program_word_named : List ℕ → Option ProgramWord
program_word_named name =
    if bytes_eq name (codes "runs") then Some program_word.Runs
    else (if bytes_eq name (codes "run") then Some program_word.Run
    else (if bytes_eq name (codes "run-cut") then Some program_word.RunCut
    else (if bytes_eq name (codes "failures") then Some program_word.Failures
    else (if bytes_eq name (codes "check") then Some program_word.Check
    else (if bytes_eq name (codes "check-run") then Some program_word.CheckRun
    else (if bytes_eq name (codes "file-names") then Some program_word.FileNames
    else (if bytes_eq name (codes "call") then Some program_word.Call
    else None)))))))

-- the first word that there is
abbrev pub first_word : Option Word → Option Word → Option Word
first_word None other = other
first_word (Some found) other = Some found

-- the word that a name stands for
abbrev pub word_named : List ℕ → Option Word
word_named name =
    first_word (option_map word.Printed (printed_word_named name))
    (first_word (option_map word.Read (read_word_named name))
    (first_word (option_map word.Tree (tree_word_named name))
    (first_word (option_map word.Edit (edit_word_named name))
    (option_map word.Program (program_word_named name)))))

-- all that a word for what is printed answers about a text
abbrev pub printed_as : PrintedWord → List ℕ → List ℕ
printed_as printed_word.Tree text = printed command.Tree text
printed_as printed_word.TreeCode text = code_tree_printed unicode_classes text
printed_as printed_word.TreeMath text = math_tree_printed unicode_classes text
printed_as printed_word.Lines text = printed command.Lines text
printed_as printed_word.Html text = printed command.Html text

-- what a word answers about a text, where the program typst_syn or its library prints that
abbrev pub printed_by : Word → List ℕ → Option (List ℕ)
printed_by (word.Printed printing) text = Some (printed_as printing text)
printed_by (word.Read _) text = None
printed_by (word.Tree _) text = None
printed_by (word.Edit _) text = None
printed_by (word.Program _) text = None
