-- How far a walk has come (of private clauses).
use Rattle.std.specs.Prelude.{◌≡◌, ℕ, ◌+◌, ◌-◌, ◌<◌, List, [], ◌∷◌, map, reverse, Option, None, Some}
use Rattle.std.specs.List.{filter}
use Rattle.typst_kinds.specs.Head.{Head}
use Rattle.typst_tree.specs.Tree.{Forest, more, Tree, count, nodes}
use Rattle.typst_tree.specs.Walks.{numbers}
use Rattle.typst_tree.specs.Steps.{At, at, node_of, parent}
use Rattle.typst_tree.specs.Linked.{linked, left}
use Rattle.typst_tree.specs.declared.linked.LinkedNode.{LinkedNode}
use Rattle.typst_highlight.proofs.Rows.{Stand}
use Rattle.typst_highlight.specs.Spans.{numbers_from}
use Rattle.typst_flat.specs.Records.{number_if, meets}
use Rattle.typst_flat.specs.declared.records.Stretch.{Stretch}
use Rattle.typst_flat.specs.declared.walk.Row.{Row}
use Rattle.typst_flat.specs.declared.walk.Place.{Place}
use Rattle.typst_flat.specs.declared.walk.Walk.{Walk}

-- the trees that are left of a row, the first of which has the number n
pub record RowStands (root : Tree) (n : ℕ) (w : Row) : Type 0 where
  pub trees : Forest
  pub front : List Tree
  pub back : List Tree
  pub stands : Stand root n trees front back (Some w.parent)
  pub row : left w.nodes ≡ map (at root) (numbers n trees)
  pub begun : 0 < n

-- the rows that are left hold all nodes from the number n on, the innermost first
abbrev pub IsReady : Tree → ℕ → List Row → Type 0
IsReady root n [] = 0 < n → n ≡ nodes root
IsReady root n (w ∷ ws) = (s : RowStands root n w) × IsReady root (n + count s.trees) ws

abbrev pub up_number : Option ℕ → ℕ
up_number None = 0
up_number (Some n) = n

-- the node n is at hand, a child of the node `above`, and the rows hold all nodes after it and what is below it
pub record IsAt (root : Tree) (n above : ℕ) (ws : List Row) : Type 0 where
  pub head : Head
  pub kids : Forest
  pub later : Forest
  pub front : List Tree
  pub back : List Tree
  pub up : Option ℕ
  pub stands : Stand root n (more head kids later) front back up
  pub above_is : up_number up ≡ above
  pub ready : IsReady root (n + nodes (node_of (at root n))) ws

-- the rows of a walk, the innermost first
abbrev pub rows : Walk → List Row
rows w = reverse w.rows.items

abbrev pub Stays : Walk → Type 0
Stays w = IsReady w.root.now w.number (rows w)

-- the nodes from the number n on that meet a stretch
abbrev pub ahead_from : Stretch → Tree → ℕ → List At
ahead_from s root n = filter (meets s) (map (at root) (numbers_from n (nodes root - n)))

-- the nodes that a walk has still to come to
abbrev pub ahead : Walk → List At
ahead w = ahead_from w.stretch w.root.now w.number

-- the node at hand is taken out of its row, with the number of its parent, if there is one
abbrev pub Takes : Walk → Option (LinkedNode × ℕ) → Walk → Type 0
Takes w None v = w.number ≡ nodes w.root.now
Takes w (Some a) v = (linked a.0 ≡ at w.root.now w.number) × IsAt w.root.now w.number a.1 (rows v)

-- a walk comes to a node, or to its end
abbrev pub Comes : Walk → Option Place → Walk → Type 0
Comes w None v = ahead w ≡ []
Comes w (Some p) v =
    (ahead w ≡ linked p.node ∷ ahead v) × ((p.number ≡ (linked p.node).number) × ((p.parent ≡ number_if (parent (linked p.node))) × Stays v))
