-- The steps from one node of a tree to another.
use Rattle.std.specs.Prelude.{◌≡◌, ℕ, ◌+◌, nat_lt, Bool, ◌&&◌, not, List, map, length, take, find, Option, Some, slice_get, unwrap_or, option_and_then}
use Rattle.std.specs.Option.{option_map}
use Rattle.typst_kinds.specs.Kinds.{is_trivia}
use Rattle.typst_kinds.specs.declared.kind.SyntaxKind.{SyntaxKind}
use Rattle.typst_tree.specs.Tree.{Tree, text_of, nodes, places, saturated}
use Rattle.typst_tree.specs.Walks.{texts, numbers, first_at, last_leaf, has_child, is_leaf_from, holds_byte, has_span, has_number}

-- a node of a tree, by its number among the tree's nodes in preorder
pub record At : Type 0 where
  pub root : Tree
  pub number : ℕ

-- the node itself
abbrev pub node_of : At → Tree
node_of a = unwrap_or (slice_get (places a.root) a.number) a.root

-- the node's kind
abbrev pub kind_of : At → SyntaxKind
kind_of a = (node_of a).head.kind

-- the bytes of the leaves before the node
abbrev pub start_of : At → ℕ
start_of a = length (texts (take a.number (places a.root)))

-- where the node begins, in bytes
abbrev pub offset_of : At → ℕ
offset_of a = saturated (start_of a)

-- where the node ends, in bytes
abbrev pub end_of : At → ℕ
end_of a = saturated (start_of a + length (text_of (node_of a)))

-- another node of the same tree
abbrev pub at : Tree → ℕ → At
at root number = record { root = root; number = number }

-- the first node of the tree that passes a test
abbrev pub first_of_all : (ℕ → ℕ → Tree → Bool) → At → Option At
first_of_all p a = option_map (at a.root) (first_at p 0 0 (places a.root))

-- the first that passes a test of the node itself and those below it
abbrev pub first_below : (ℕ → ℕ → Tree → Bool) → At → Option At
first_below p a = option_map (at a.root) (first_at p a.number (start_of a) (places (node_of a)))

-- the node that has this one among its children
abbrev pub parent : At → Option At
parent a = first_of_all (has_child a.number) a

-- the node's children, in order
abbrev pub children : At → List At
children a = map (at a.root) (numbers (a.number + 1) (node_of a).kids)

-- whether the second node, of the same row, comes after the first and isn't trivia
abbrev pub is_sibling_after : At → At → Bool
is_sibling_after a b = nat_lt a.number b.number && not (is_trivia (kind_of b))

-- the first of the parent's children after the node that isn't trivia
abbrev pub next_sibling : At → Option At
next_sibling a = option_and_then (λ p. find (is_sibling_after a) (children p)) (parent a)

-- the last leaf before the node that is neither trivia nor an error
abbrev pub prev_leaf : At → Option At
prev_leaf a = option_map (at a.root) (last_leaf a.number 0 (places a.root))

-- the first leaf that is neither trivia nor an error after the node and all that is below it
abbrev pub next_leaf : At → Option At
next_leaf a = first_of_all (is_leaf_from (a.number + nodes (node_of a))) a

-- the first leaf within the node that is neither trivia nor an error
abbrev pub leftmost_leaf : At → Option At
leftmost_leaf a = first_below (is_leaf_from 0) a

-- the leaf within the node whose range holds the byte
abbrev pub leaf_at : ℕ → At → Option At
leaf_at byte a = first_below (holds_byte byte) a

-- the first node within the node that has this span
abbrev pub find_span : Option (ℕ × ℕ) → At → Option At
find_span span a = first_below (has_span span) a

-- the first node within the node whose span has this number
abbrev pub find_number : ℕ → At → Option At
find_number m a = first_below (has_number m) a

-- no two of the nodes have the same span
abbrev pub SpansDiffer : List Tree → Type 0
SpansDiffer ts =
    (i j : ℕ) (t u : Tree) → slice_get ts i ≡ Some t → slice_get ts j ≡ Some u → t.head.span ≡ u.head.span → i ≡ j

-- where spans differ, the span of a node within another one finds that node
abbrev pub FindsOwn : Option (ℕ × ℕ) → At → Option At → Type 0
FindsOwn span a found =
    (i : ℕ) (t : Tree) → SpansDiffer (places (node_of a)) → slice_get (places (node_of a)) i ≡ Some t → t.head.span ≡ span → found ≡ Some (at a.root (a.number + i))
