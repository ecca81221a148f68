-- Columns of a line.
use Rattle.std.specs.Prelude.{ℕ, ◌+◌, ◌-◌, nat_le, nat_lt, if◌then◌else◌, List, [], ◌∷◌}
use Rattle.std.specs.Char.{len_utf8}
use Rattle.std.specs.Str.{chars}
use Rattle.typst_positions.specs.declared.columns.Encoding.{Encoding}
use Rattle.typst_positions.specs.declared.columns.Encoding.TheVariants.{Utf8, Utf16}

-- how wide a character is: its bytes, or its UTF-16 units, which are two past U+FFFF
abbrev pub width : Encoding → ℕ → ℕ
width Utf8 c = len_utf8 c
width Utf16 c = if nat_lt c 0x1_0000 then 1 else 2

-- how wide the first characters are, measured one way: as many as are no wider than a number,
-- measured another way
abbrev pub measured : (ℕ → ℕ) → (ℕ → ℕ) → ℕ → List ℕ → ℕ
measured size by most [] = 0
measured size by most (c ∷ cs) = if nat_le (by c) most then size c + measured size by (most - by c) cs else 0

-- how many bytes of a line are before a column: those of whole characters, and no more than the line has
unfoldable pub bytes_before : Encoding → List ℕ → ℕ → ℕ
bytes_before encoding line column = measured len_utf8 (width encoding) column (chars line)

-- how wide the whole characters among the first bytes of a line are
unfoldable pub column_of : Encoding → List ℕ → ℕ → ℕ
column_of encoding line bytes = measured (width encoding) len_utf8 bytes (chars line)
