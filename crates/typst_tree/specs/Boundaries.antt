-- Places between the children of a tree's root.
use Rattle.std.specs.Prelude.{◌≡◌, ◌+◌, ◌-◌, ◌^◌, ◌<◌, ◌≤◌, length, take}
use Rattle.typst_tree.specs.Tree.{Tree, nodes, text_of, trees, forest, count, joined}
use Rattle.typst_tree.specs.declared.boundary.Boundary.{Boundary}

-- the nodes and the bytes of a tree can be counted
abbrev pub AreCounted : Tree → Type 0
AreCounted root = (nodes root < 2 ^ 64 - 1) × (length (text_of root) < 2 ^ 64)

-- a place between the children of a tree's root: so many children, nodes and bytes are before it
pub record IsBoundary (root : Tree) (b : Boundary) : Type 0 where
  pub within : b.index ≤ length (trees root.kids)
  pub nodes : b.nodes ≡ count (forest (take b.index (trees root.kids)))
  pub bytes : b.bytes ≡ length root.head.text + length (joined (forest (take b.index (trees root.kids))))
