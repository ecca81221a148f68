-- Where lines end.
use Rattle.std.specs.Prelude.{ℕ, List}
use Rattle.std.specs.Str.{IsCharBoundary}
use Rattle.typst_lines.specs.Classes.{in_line}
use Rattle.typst_lines.specs.Place.{IsRun}

-- the line that goes on at one byte offset of a text ends at the other
pub record IsLineEnd (text : List ℕ) (from end : ℕ) : Type 0 where
  pub start : IsCharBoundary text from
  pub line : IsRun in_line text from end
