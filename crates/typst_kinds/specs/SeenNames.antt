-- Names that were seen.
use Rattle.std.specs.Prelude.{ℕ, Bool, if◌then◌else◌, List, [], ◌∷◌, ◌++◌}
use Rattle.std.specs.List.{list_any}
use Rattle.std.specs.Str.{bytes_eq}

-- whether the name is one of the names
abbrev pub has_name : List (List ℕ) → List ℕ → Bool
has_name names name = list_any (λ n. bytes_eq n name) names

-- the names with this one after them, unless it is one of them
abbrev pub with_name : List (List ℕ) → List ℕ → List (List ℕ)
with_name names name = if has_name names name then names else names ++ name ∷ []
