-- Children in their parent's row, and the first long row on a way (for private clauses).
use Rattle.std.specs.Prelude.{◌≡◌, ℕ, ◌+◌, ◌-◌, ◌<◌, ◌≤◌, length, take, Some, slice_get}
use Rattle.typst_tree.specs.Tree.{Tree, nodes, places, forest, trees, count, saturated}
use Rattle.typst_tree.specs.Walks.{Stands}
use Rattle.typst_tree.specs.Follows.{reach_of, index_of}
use Rattle.typst_tree.specs.declared.known.Known.{Known}
use Rattle.typst_tree.specs.declared.known.Reach.TheVariants as reach

-- a row of more trees than this is long
abbrev pub long : ℕ
long = 128

-- the node t, numbered m, is the child with the index i of the node o, numbered n
pub record IsChild (o : Tree) (n : ℕ) (t : Tree) (m i : ℕ) : Type 0 where
  pub here : slice_get (trees o.kids) i ≡ Some t
  pub number : m ≡ n + 1 + count (forest (take i (trees o.kids)))

-- no node above the one with the number n has a long row, which is more than `long` children
abbrev pub IsOpen : Tree → ℕ → Type 0
IsOpen root n = (m : ℕ) (o : Tree) → slice_get (places root) m ≡ Some o → m < n → n < m + nodes o → length (trees o.kids) ≤ long

-- o, numbered m, is the first node with a long row on the way from the root to the node with the number n
pub record IsFork (root : Tree) (n : ℕ) (o : Tree) (m : ℕ) : Type 0 where
  pub here : slice_get (places root) m ≡ Some o
  pub first : IsOpen root m
  pub many : long < length (trees o.kids)
  pub from : m < n
  pub to : n < m + nodes o

-- a tree with so many nodes, of which the first has the number n and begins at byte b, is or is
-- below the tree with the index i of the first long row, and is d numbers and e bytes after that
-- one
pub record IsPlaced (root : Tree) (n b size i d e : ℕ) : Type 0 where
  pub owner : Tree
  pub above : ℕ
  pub tree : Tree
  pub start : ℕ
  pub fork : IsFork root n owner above
  pub after : d ≤ n
  pub child : IsChild owner above tree (n - d) i
  pub within : d + size ≤ nodes tree
  pub stands : Stands (places root) (n - d) start (places tree)
  pub begins : b ≡ saturated (start + e)

-- what is known of the way to a tree holds, where the tree has so many nodes, of which the first
-- has the number n and begins at byte b
pub record Holds (root : Tree) (n b size : ℕ) (k : Known) : Type 0 where
  pub at_open : reach_of k ≡ reach.Open → IsOpen root n
  pub at_placed : reach_of k ≡ reach.Placed → ∥ IsPlaced root n b size (index_of k) k.below k.begins ∥₁
