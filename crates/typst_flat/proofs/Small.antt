-- The nodes of a small tree are counted in 32 bits, and so are the bytes before them.
use Rattle.typst_flat.proofs.Cited.{ℕ, ◌<◌, [], None, arith, append-nil, more, none, Tree, nodes, at, alone, IsNarrow, IsPlaced, IsSmall, PlacedNode}
use Rattle.typst_flat.proofs.Passed.{inside}

pub small_numbers : (root : Tree) (n : ℕ) (g : PlacedNode) → n < nodes root → IsSmall root → IsPlaced (at root n) g → IsNarrow g
small_numbers root n g less s p =
    let w = inside root 0 n (more root.head root.kids none) [] [] None (alone root) (omega arith) (omega (arith, less)) in
    grind (arith, append-nil)
