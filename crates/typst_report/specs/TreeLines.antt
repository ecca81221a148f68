-- A syntax tree as JSON, a line for each node.
use Rattle.std.specs.Prelude.{ℕ, ◌+◌, List, [], ◌∷◌, ◌++◌, length, codes, if◌then◌else◌}
use Rattle.json.specs.Token.{Token, begin_object, end_object}
use Rattle.typst_kinds.specs.Head.{Head}
use Rattle.typst_tree.specs.Tree.{Forest, none, more, Tree, joined, saturated}
use Rattle.typst_kinds.specs.Names.{variant_name}
use Rattle.typst_report.specs.Ndjson.{count_member, line, text_member}

-- the text of a leaf
abbrev pub own_text : Head → List Token
own_text h = if h.is_inner then [] else text_member (codes "text") h.text

-- the bytes that a node begins and ends at
abbrev pub range : ℕ → ℕ → List Token
range start end = count_member (codes "start") start ++ count_member (codes "end") end

-- a node's depth, its kind, its bytes and, of a leaf, its text
abbrev pub members : ℕ → ℕ → ℕ → Head → List Token
members depth start end h = count_member (codes "depth") depth ++ (text_member (codes "kind") (variant_name h.kind) ++ (range start end ++ own_text h))

-- a node as an object
abbrev pub node : ℕ → ℕ → ℕ → Head → List Token
node depth start end h = begin_object ∷ (members depth start end h ++ end_object ∷ [])

-- where a node ends that begins at a byte
abbrev pub end_of : ℕ → Head → Forest → ℕ
end_of start h ks = saturated (start + length (h.text ++ joined ks))

-- the lines of nodes that are side by side from a byte on, each with those of the nodes below it
abbrev pub node_lines : ℕ → ℕ → Forest → List ℕ
node_lines depth start none = []
node_lines depth start (more h ks r) =
    line (node depth start (end_of start h ks) h) ++ (node_lines (saturated (depth + 1)) (saturated (start + length h.text)) ks ++ node_lines depth (end_of start h ks) r)

-- the lines of a tree
abbrev pub tree_lines : Tree → List ℕ
tree_lines t = node_lines 0 0 (more t.head t.kids none)
