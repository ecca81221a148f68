-- What the machines of tokens keep in mind from one character to the next.
use Rattle.std.specs.Prelude.{ℕ, Bool, List}

-- what a machine keeps in mind
pub data Memory : Type 0 where
  -- nothing
  blank : Memory
  -- within a block comment: the character before, or 0 where it ended a delimiter, and how many
  -- comments are open around the innermost one
  comment : ℕ → ℕ → Memory
  -- within a raw text: how many backticks in a row close it, and how many are before
  fence : ℕ → ℕ → Memory
  -- within a link: the closing brackets that are still to come, the innermost first
  brackets : List ℕ → Memory
  -- within a string: whether a backslash before takes the next character
  quoted : Bool → Memory
