-- Where steps upwards and sideways go from, and what lies beside that (for private clauses).
use Rattle.std.specs.Prelude.{◌≡◌, ℕ, ◌+◌, ◌≤◌, drop, Option}
use Rattle.std.specs.Option.{option_map}
use Rattle.typst_tree.specs.Tree.{Tree, nodes, places}
use Rattle.typst_tree.specs.Walks.{first_at, last_leaf, is_leaf_from}
use Rattle.typst_tree.specs.Rows.{IsChild, IsFork}
use Rattle.typst_tree.specs.Steps.{At, at}
use Rattle.typst_tree.specs.declared.linked.Above.{Above}
use Rattle.typst_tree.specs.declared.linked.Branch.{Branch}
use Rattle.typst_tree.specs.declared.linked.LinkedNode.{LinkedNode}

-- the parent of a node, with the node's index among its children
pub record IsAbove (a : LinkedNode) (b : Above) : Type 0 where
  pub root : b.parent.root.now ≡ a.root.now
  pub child : IsChild b.parent.node.now b.parent.number a.node.now a.number b.index

-- the tree of the first long row on the way to a node that the node is or is below, with the row's owner
pub record IsBranch (a : LinkedNode) (b : Branch) : Type 0 where
  pub root : b.tree.root.now ≡ a.root.now
  pub above : IsAbove b.tree b.above
  pub fork : IsFork a.root.now a.number b.above.parent.node.now b.above.parent.number
  pub from : b.tree.number ≤ a.number
  pub to : a.number + nodes a.node.now ≤ b.tree.number + nodes b.tree.node.now

-- no node above the one with the number n has a long row and ends after the number k
abbrev pub EndsBy : Tree → ℕ → ℕ → Type 0
EndsBy root n k = (o : Tree) (m : ℕ) → IsFork root n o m → m + nodes o ≤ k

-- the first leaf that is neither trivia nor an error, from the number m on
abbrev pub leaf_after : Tree → ℕ → Option At
leaf_after root m = option_map (at root) (first_at (is_leaf_from 0) m 0 (drop m (places root)))

-- the last leaf that is neither trivia nor an error, below the number m
abbrev pub leaf_until : Tree → ℕ → Option At
leaf_until root m = option_map (at root) (last_leaf m 0 (places root))
