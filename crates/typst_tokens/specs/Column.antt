-- Columns.
use Rattle.std.specs.Prelude.{ℕ, suc}
use Rattle.std.specs.List.{prefix_len}
use Rattle.typst_lines.specs.Place.{Place}
use Rattle.typst_lines.specs.Classes.{in_line}
use Rattle.typst_tokens.specs.Reader.{Look}

-- The column of a place: the characters back to the last newline character, or to the start.
unfoldable pub column_at : Place → ℕ
column_at p = prefix_len in_line p.before

-- A column is looked for back to that newline character, or to the mark before the text.
abbrev pub column_look : Place → Look
column_look p = record { back = suc (column_at p); front = 0 }
