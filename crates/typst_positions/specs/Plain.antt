-- The front of a line that is all ASCII.
use Rattle.std.specs.Prelude.{ℕ, ◌≤◌, List, length, take}
use Rattle.std.specs.Str.{IsAscii}

-- the first bytes of a line, no more than a given number of them, are ASCII
pub record IsPlainFront (line : List ℕ) (most count : ℕ) : Type 0 where
  pub bounded : count ≤ most
  pub within : count ≤ length line
  pub ascii : IsAscii (take count line)
