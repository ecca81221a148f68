-- The HTML of a text as it is printed.
use Rattle.std.specs.Prelude.{ℕ, List, ◌++◌, codes}
use Rattle.std.specs.Str.{chars}
use Rattle.typst_lines.specs.Classes.{CharClasses}
use Rattle.typst_grammar.specs.Grammar.{tree}
use Rattle.typst_highlight.specs.Html.{html_of}

-- the HTML of a text's tree, by some classes of characters, as it is printed
abbrev pub html_printed : CharClasses → List ℕ → List ℕ
html_printed k text = html_of (tree k (chars text)) ++ codes "\n"
