-- Names of files that are in a list.
use Rattle.std.specs.Prelude.{ℕ, ◌==◌, Bool, true, false, List, [], ◌∷◌, ◌++◌, if◌then◌else◌}
use Rattle.std.specs.List.{list_any}

-- the byte that ends names in a list: NUL if there is one, and else a newline
abbrev pub end_of_names : List ℕ → ℕ
end_of_names list = if list_any (λ b. b == 0) list then 0 else 10

-- a name, unless it has no bytes
abbrev pub named : List ℕ → List (List ℕ)
named [] = []
named (b ∷ bs) = (b ∷ bs) ∷ []

-- the names in bytes, where the first name has begun with these
abbrev pub names_from : ℕ → List ℕ → List ℕ → List (List ℕ)
names_from end begun [] = named begun
names_from end begun (b ∷ bs) = if b == end then named begun ++ names_from end [] bs else names_from end (begun ++ b ∷ []) bs

-- the names in a list
abbrev pub names_in : List ℕ → List (List ℕ)
names_in list = names_from (end_of_names list) [] list
