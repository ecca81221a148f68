-- The lines of a text as they are printed.
use Rattle.std.specs.Prelude.{ℕ, ◌+◌, List, [], ◌∷◌, ◌++◌, length, codes}
use Rattle.std.specs.Fmt.{decimal}
use Rattle.std.specs.Str.{chars}
use Rattle.typst_lines.specs.Lines.{line_table, units}
use Rattle.typst_lines.specs.declared.lines.Line.{Line}

-- the row of a line: its number, its start in bytes, its start in UTF-16 units
abbrev pub row : ℕ → Line → List ℕ
row number line =
    decimal number ++ (codes " " ++ (decimal line.byte_idx ++ (codes " " ++ (decimal line.utf16_idx ++ codes "\n"))))

-- the rows of lines, numbered from a number on
abbrev pub rows : ℕ → List Line → List ℕ
rows number [] = []
rows number (line ∷ lines) = row number line ++ rows (number + 1) lines

-- how many bytes, UTF-16 units and lines a text has
abbrev pub totals : List ℕ → List ℕ
totals text =
    codes "bytes " ++ (decimal (length text) ++ (codes " utf16 " ++ (decimal (units (chars text)) ++ (codes " lines " ++ (decimal (length (line_table text)) ++ codes "\n")))))

-- all that `lines` prints about a text
abbrev pub lines_printed : List ℕ → List ℕ
lines_printed text = rows 0 (line_table text) ++ totals text
