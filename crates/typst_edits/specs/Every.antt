-- What holds of each element of a list.
use Rattle.std.specs.Prelude.{List, [], ◌∷◌}

-- something holds of each of several
abbrev pub Every : {X : Type 0} → (X → Type 0) → List X → Type 0
Every P [] = Unit {0}
Every P (x ∷ xs) = P x × Every P xs
