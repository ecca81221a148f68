-- Where a row of nodes parts: the tags on the one side of an edge don't depend on what stands on the other.
use Rattle.std.specs.Prelude.{Bool, false, not, ◌&&◌, ◌||◌}
use Rattle.typst_kinds.specs.Kinds.{is_trivia, is_hash_expr}
use Rattle.typst_tree.specs.Tree.{Forest, none, more, Tree}
use Rattle.typst_tree.specs.Walks.{is_leaf}
use Rattle.typst_highlight.specs.Rules.{is_name, is_dot}

-- a leaf that is neither trivia nor an error, neither a name nor a dot
abbrev pub is_plain : Tree → Bool
is_plain t = is_leaf t && (not (is_name t.head.kind) && not (is_dot t.head.kind))

-- the first of some trees is such a leaf
abbrev pub begins_plain : Forest → Bool
begins_plain none = false
begins_plain (more h ks r) = is_plain (record { head = h; kids = ks })

-- AN EDGE of a row: such a leaf, or a node whose first child is one, but no trivia, and nothing that may follow a hash
abbrev pub is_edge : Tree → Bool
is_edge t = (is_plain t || begins_plain t.kids) && (not (is_trivia t.head.kind) && not (is_hash_expr t.head.kind))
