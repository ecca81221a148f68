-- The walk through the nodes of a tree with their places and tags, begun near a stretch (of private clauses).
use Rattle.std.specs.Prelude.{◌≡◌, ℕ, ◌+◌, ◌-◌, ◌^◌, ◌<◌, ◌≤◌, Bool, false, true, ◌&&◌, ◌||◌, not, List, [], ◌∷◌, ◌++◌, drop, length, map, take, Option}
use Rattle.typst_kinds.specs.Kinds.{is_error, is_trivia}
use Rattle.typst_kinds.specs.declared.kind.SyntaxKind.{SyntaxKind}
use Rattle.std.specs.Borrow.{Bor}
use Rattle.typst_tree.specs.Boundaries.{IsBoundary}
use Rattle.typst_tree.specs.declared.boundary.Boundary.{Boundary}
use Rattle.typst_tree.specs.Tree.{Tree, count, nodes, forest, places, saturated, text_of}
use Rattle.typst_tree.specs.Walks.{is_childless, is_leaf}
use Rattle.typst_tree.specs.Steps.{At, at, node_of, offset_of, end_of, parent}
use Rattle.typst_highlight.specs.declared.context.Context.{Context}
use Rattle.typst_highlight.specs.declared.progress.Progress.{Progress}
use Rattle.typst_highlight.specs.declared.progress.Waiting.{Waiting}
use Rattle.typst_highlight.specs.Nodes.{tag_of}
use Rattle.typst_highlight.specs.Rules.{is_dot, is_name}
use Rattle.typst_highlight.specs.Walk.{joined, waiting}
use Rattle.typst_highlight.proofs.Rows.{Stand}
use Rattle.typst_highlight.proofs.Leaves.{kind_up}
use Rattle.typst_highlight.proofs.Contexts.{Fits, outer_at}
use Rattle.typst_highlight.proofs.Nears.{Near}
use Rattle.typst_flat.specs.Codes.{cut, tag_code}
use Rattle.typst_flat.specs.Records.{filled, met_in, node_record, number_if}
use Rattle.typst_flat.specs.Walk.{ahead_from, up_number}
use Rattle.typst_flat.specs.declared.placed.PlacedNode.{PlacedNode}
use Rattle.typst_flat.specs.declared.nodes.Here.{Here}
use Rattle.typst_flat.specs.declared.nodes.Search.{Search}
use Rattle.typst_flat.specs.declared.records.Node.{Node}
use Rattle.typst_flat.specs.declared.records.Stretch.{Stretch}

-- a walk: what it is after, where it is, and what the next node's tag depends on
pub record Course : Type 0 where
  pub root : Bor Tree
  pub stretch : Stretch
  pub near : Boundary
  pub nodes : Bor (List Tree)
  pub number : ℕ
  pub parent : ℕ
  pub progress : Progress

abbrev pub course : Search → Here → Progress → Course
course s h p = record { root = s.root; stretch = s.stretch; near = s.near; nodes = h.nodes; number = h.number; parent = h.parent; progress = p }

-- a node as it is given
pub record IsPlaced (a : At) (g : PlacedNode) : Type 0 where
  pub node : g.node.now ≡ node_of a
  pub start : g.start ≡ offset_of a
  pub end : g.end ≡ end_of a
  pub number : g.number ≡ a.number
  pub parent : g.parent ≡ cut (number_if (parent a))
  pub tag : g.tag ≡ tag_code (tag_of a)
  pub within : a.number + nodes (node_of a) ≤ nodes a.root

-- nodes that a walk comes back to, the first of which has the number n
pub record RowFits (root : Tree) (n : ℕ) (w : Waiting) : Type 0 where
  pub front : List Tree
  pub back : List Tree
  pub up : Option ℕ
  pub stands : Stand root n (forest w.nodes.now) front back up
  pub start : w.start ≡ offset_of (at root n)
  pub parent : w.level.parent ≡ kind_up root up
  pub outer : w.level.outer ≡ outer_at root up
  pub above : cut (up_number up) ≡ w.parent

-- the rows to come back to hold all nodes from the number n on, the innermost first
abbrev pub AreReady : Tree → ℕ → List Waiting → Type 0
AreReady root n [] = n ≡ nodes root
AreReady root n (w ∷ ws) = RowFits root n w × AreReady root (n + count (forest w.nodes.now)) ws

-- the rows hold all nodes from the walk's number on, and it knows what is around the next one as far as tags depend on it, and a boundary of the root
pub record Stays (w : Course) : Type 0 where
  pub counted : nodes w.root.now < 2 ^ 64 - 1
  pub boundary : IsBoundary w.root.now w.near
  pub front : List Tree
  pub back : List Tree
  pub up : Option ℕ
  pub stands : Stand w.root.now w.number (forest w.nodes.now) front back up
  pub above : cut (up_number up) ≡ w.parent
  pub context : Context
  pub fits : Fits w.root.now w.number (forest w.nodes.now) up context
  pub near : Near (joined w.progress) context
  pub ready : AreReady w.root.now (w.number + count (forest w.nodes.now)) (waiting w.progress)

-- a walk goes past some nodes, none of which meets its stretch, or stays where it is
pub record Passes (v w : Course) : Type 0 where
  pub onward : v.number ≤ w.number
  pub still : w.number ≡ v.number → w.nodes.now ≡ v.nodes.now
  pub left : ahead_from v.stretch v.root.now v.number ≡ ahead_from v.stretch v.root.now w.number

-- a walk goes past the next node, and past some that don't meet its stretch
pub record Moves (v w : Course) : Type 0 where
  pub within : v.number < nodes v.root.now
  pub onward : v.number < w.number
  pub left : ahead_from v.stretch v.root.now (v.number + 1) ≡ ahead_from v.stretch v.root.now w.number
  pub stays : Stays w

-- the last node among a node and those below it
pub record EndsWith (t last : Tree) : Type 0 where
  pub init : List Tree
  pub nodes : places t ≡ init ++ last ∷ []
  pub childless : is_childless last.kids ≡ true

-- a kind of leaves that count, which is neither that of names nor that of dots
abbrev pub is_settled : SyntaxKind → Bool
is_settled k = (not (is_trivia k || is_error k) && not (is_name k)) && not (is_dot k)

-- the last node of a node and those below it is a leaf of the kind
pub record EndsIn (t : Tree) (k : SyntaxKind) : Type 0 where
  pub init : List Tree
  pub last : Tree
  pub nodes : places t ≡ init ++ last ∷ []
  pub leaf : is_leaf last ≡ true
  pub kind : last.head.kind ≡ k
  pub no_name : is_name k ≡ false
  pub no_dot : is_dot k ≡ false

-- a place in a walk's row that it may go on at, whose first node has the number n and begins there: all before it end before the stretch
pub record IsSought (w : Course) (row : List Tree) (start n : ℕ) : Type 0 where
  pub stays : Stays w
  pub front : List Tree
  pub stands : Stand w.root.now n (forest row) front stays.back stays.up
  pub begins : start ≡ offset_of (at w.root.now n)
  pub whole : n + count (forest row) ≡ w.number + count (forest w.nodes.now)
  pub onward : w.number ≤ n
  pub left : ahead_from w.stretch w.root.now w.number ≡ ahead_from w.stretch w.root.now n

-- such a place behind the node t
pub record IsBehind (w : Course) (t : Tree) (row : List Tree) (end n : ℕ) : Type 0 where
  pub start : ℕ
  pub first : ℕ
  pub sought : IsSought w (t ∷ row) start first
  pub ends : end ≡ saturated (start + length (text_of t))
  pub early : end < w.stretch.start
  pub number : n ≡ first + nodes t

-- the bytes and the nodes of a tree are counted in 32 bits
pub record IsSmall (root : Tree) : Type 0 where
  pub bytes : length (text_of root) < 2 ^ 32
  pub nodes : nodes root < 2 ^ 32

-- the places of a node, its number and its nodes are counted in 32 bits
pub record IsNarrow (g : PlacedNode) : Type 0 where
  pub start : g.start < 2 ^ 32
  pub end : g.end < 2 ^ 32
  pub number : g.number < 2 ^ 32
  pub nodes : nodes g.node.now < 2 ^ 32

-- an array has the records of the nodes before the number n that meet a stretch, `count` of them, as far as they fit
pub record IsFilled (s : Stretch) (root : Tree) (n count : ℕ) (array old : List Node) : Type 0 where
  pub left : drop count (met_in s root) ≡ ahead_from s root n
  pub short : count ≤ length (met_in s root)
  pub put : array ≡ filled (map node_record (take count (met_in s root))) old
