-- What a cursor shows.
use Rattle.typst_lines.specs.Scanner.{place}
use Rattle.typst_tokens.specs.Line.{IsLineEnd}
use Rattle.typst_tokens.specs.Sight.{Sight, Covers}
use Rattle.typst_tokens.specs.declared.cursor.Cursor.TheInside.{Inside}

-- the place of a cursor, and the bytes that it looked at
abbrev pub sight_of : Inside → Sight
sight_of i = record { place = place i.s; reach = i.reach; least = i.least }

-- What a cursor looked at leads to its place, and what it knows of a line of its text is so.
pub record IsKept (i : Inside) : Type 0 where
  pub looks : Covers (sight_of i)
  pub line : IsLineEnd i.s.text.now i.line_from i.line_end
