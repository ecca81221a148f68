-- Trees of a row that a search passes over (for private clauses).
use Rattle.std.specs.Prelude.{◌≡◌, ℕ, ◌+◌, ◌≤◌, List, length, take}
use Rattle.typst_tree.specs.Tree.{Tree, forest, count, joined, places, saturated}
use Rattle.typst_tree.specs.Walks.{first_at, holds_byte, Within}
use Rattle.typst_tree.specs.Rows.{IsChild}
use Rattle.typst_tree.specs.declared.search.Spot.{Spot}

-- of trees side by side, of which the first has the number n and begins at byte b, the one after
-- the first i has the number m and begins at byte c
pub record IsPassed (row : List Tree) (n b i m c : ℕ) : Type 0 where
  pub within : i ≤ length row
  pub number : m ≡ n + count (forest (take i row))
  pub offset : c ≡ saturated (b + length (joined (forest (take i row))))

-- of a node a and all below it, only its child with this index and the nodes below that can hold
-- the byte
pub record FindsChild (byte : ℕ) (a c : Spot) (i : ℕ) : Type 0 where
  pub child : IsChild a.node.now a.number c.node.now c.number i
  pub within : Within a.number a.offset (places a.node.now) c.number c.offset (places c.node.now)
  pub found : first_at (holds_byte byte) a.number a.offset (places a.node.now) ≡ first_at (holds_byte byte) c.number c.offset (places c.node.now)
