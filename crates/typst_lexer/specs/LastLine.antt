-- What is known of the last line of a text.
use Rattle.std.specs.Prelude.{◌≡◌, ℕ, List, [], ◌++◌, reverse}
use Rattle.std.specs.Str.{chars}
use Rattle.typst_lines.specs.Scanner.{place}
use Rattle.typst_lexer.specs.RawLines.{last_raw_line}
use Rattle.typst_lexer.specs.declared.raw_lines.LastLine.{LastLine}

-- The line is the last one of these characters, and its places are before its line end and at the
-- end.
pub record IsLastLine (cs : List ℕ) (l : LastLine) : Type 0 where
  pub line : chars l.line.now ≡ (last_raw_line cs).line
  pub from_start : (place l.start).ahead ≡ (last_raw_line cs).ending ++ (last_raw_line cs).line
  pub whole : reverse (place l.start).before ++ (place l.start).ahead ≡ cs
  pub to_end : (place l.end).before ≡ reverse cs
  pub nothing_left : (place l.end).ahead ≡ []
