-- Where the blocks in the trees of short texts come from, as it follows from the definitions.
use Rattle.std.specs.Prelude.{◌≡◌, ℕ, List, [], ◌∷◌, codes, map}
use Rattle.typst_lines.specs.Classes.{CharClasses, by_law}
use Rattle.typst_edits.specs.Hole.{path_of}
use Rattle.typst_edits.specs.Laws.{blocks_of_text}
use Rattle.typst_edits.specs.Standing.{seconds_of_text}

-- the paths of the blocks that are units, and of those in readings that came in place of others
abbrev pub paths_of_units : CharClasses → List ℕ → List (List ℕ)
paths_of_units k text = map (λ c. path_of c.hole) (blocks_of_text k text)

abbrev pub paths_of_seconds : CharClasses → List ℕ → List (List ℕ)
paths_of_seconds k text = map (λ c. path_of c.hole) (seconds_of_text k text)

-- what is computed
pub record Origins (beyond : CharClasses) : Type 0 where
  -- the value of a pair stands in the only reading of its parens
  pub pair_units : paths_of_units (by_law beyond) (codes "#(x: [b])") ≡ (1 ∷ 1 ∷ 3 ∷ []) ∷ []
  pub pair_seconds : paths_of_seconds (by_law beyond) (codes "#(x: [b])") ≡ []
  -- the default of a parameter stands in the second reading of its parens, after which an arrow came
  pub default_units : paths_of_units (by_law beyond) (codes "#((x: [b]) => x)") ≡ []
  pub default_seconds : paths_of_seconds (by_law beyond) (codes "#((x: [b]) => x)") ≡ (1 ∷ 1 ∷ 0 ∷ 1 ∷ 3 ∷ []) ∷ []
  -- the closure's own block is after both
  pub own_units : paths_of_units (by_law beyond) (codes "#((x) => [b])") ≡ (1 ∷ 1 ∷ 4 ∷ []) ∷ []
  pub own_seconds : paths_of_seconds (by_law beyond) (codes "#((x) => [b])") ≡ []
