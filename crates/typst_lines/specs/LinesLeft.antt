-- What an iterator over line starts still gives.
use Rattle.std.specs.Prelude.{List}
use Rattle.typst_lines.specs.Lines.{lines_after}
use Rattle.typst_lines.specs.declared.lines.Line.{Line}
use Rattle.typst_lines.specs.declared.lines.LinesFrom.{LinesFrom}

-- the lines that start after its place
abbrev pub lines_left : LinesFrom → List Line
lines_left s = lines_after s.text.now s.byte_idx
