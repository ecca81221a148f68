-- How many entries are beside the words before a place, kept for one place.
use Rattle.std.specs.Prelude.{◌≡◌, ◌≤◌, List, length, take}
use Rattle.typst_candidates.specs.declared.entries.Tally.{Tally}
use Rattle.typst_candidates.specs.declared.packed.Packed.{Packed}
use Rattle.typst_candidates.specs.Packed.{wides}

-- A tally says how many entries are beside the words before it.
pub record IsTally (ps : List Packed) (m : Tally) : Type 0 where
  pub within : m.number ≤ length ps
  pub passed : m.passed ≡ wides (take m.number ps)
