-- What the look of a column is good for.
use Rattle.std.specs.Prelude.{◌≡◌}
use Rattle.typst_lines.specs.Place.{Place}
use Rattle.typst_tokens.specs.Column.{column_at, column_look}
use Rattle.typst_tokens.specs.Reader.{Agree}

-- If another place shows the same characters and marks in the look of a column, the column is
-- the same.
abbrev pub ColumnFrame : Type 0
ColumnFrame = (p q : Place) → Agree (column_look p) p q → column_at p ≡ column_at q
