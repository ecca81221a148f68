-- Sets of characters.
use Rattle.std.specs.Prelude.{ℕ, Bool, false, ◌||◌, ◌==◌, List, [], ◌∷◌}

-- A character is one of the signs.
abbrev pub among : List ℕ → ℕ → Bool
among [] c = false
among (d ∷ []) c = c == d
among (d ∷ signs) c = c == d || among signs c
