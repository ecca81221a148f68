-- The lines of a text in which a stretch was replaced.
use Rattle.std.specs.Prelude.{◌≡◌, ℕ, ◌+◌, ◌-◌, ◌%◌, ◌^◌, ◌≤◌, List, [], ◌∷◌, ◌++◌, length, take, drop}
use Rattle.std.specs.Str.{IsUtf8, IsCharBoundary}
use Rattle.typst_lines.specs.declared.lines.Line.{Line}

-- in a text the stretch between two bytes became another one, which ends at a byte of the new text
pub record IsEdit (old new : List ℕ) (start end new_end : ℕ) : Type 0 where
  pub with : List ℕ
  pub utf8_old : IsUtf8 old
  pub utf8 : IsUtf8 with
  pub starts : IsCharBoundary old start
  pub ends : IsCharBoundary old end
  pub ordered : start ≤ end
  pub is : new ≡ take start old ++ (with ++ drop end old)
  pub new_end_is : new_end ≡ start + length with

-- the UTF-16 units before the first of several lines, or 0 if there is none
abbrev pub units_at : List Line → ℕ
units_at [] = 0
units_at (l ∷ ls) = l.utf16_idx

-- how far it is from one number to another, in a machine's numbers, which wrap round
abbrev pub distance : ℕ → ℕ → ℕ
distance from to = (to + (2 ^ 64 - from)) % 2 ^ 64

-- the line so many bytes and units on, in a machine's numbers
abbrev pub shifted_line : ℕ → ℕ → Line → Line
shifted_line bytes units l = record { byte_idx = (l.byte_idx + bytes) % 2 ^ 64; utf16_idx = (l.utf16_idx + units) % 2 ^ 64 }

-- the line as far after byte c and unit v as it was after byte b and unit u
abbrev pub moved_line : ℕ → ℕ → ℕ → ℕ → Line → Line
moved_line b c u v l = shifted_line (distance b c) (distance u v) l
