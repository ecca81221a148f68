-- Names that are put into arrays.
use Rattle.std.specs.Prelude.{◌≡◌, ℕ, List, length}
use Rattle.typst_flat.specs.Records.{filled}

-- a text was put into an array as far as it fits, and its bytes were counted
pub record IsPut (text : List ℕ) (count : ℕ) (old new : List ℕ) : Type 0 where
  pub bytes : count ≡ length text
  pub room : new ≡ filled text old
