-- The tags of a tree's nodes as a list.
use Rattle.std.specs.Prelude.{ℕ, zero, suc, ◌+◌, List, [], ◌∷◌, map, Option}
use Rattle.typst_tree.specs.Tree.{Tree, nodes}
use Rattle.typst_tree.specs.Steps.{at}
use Rattle.typst_highlight.specs.declared.tags.Tag.{Tag}
use Rattle.typst_highlight.specs.Nodes.{tag_of}
use Rattle.typst_highlight.specs.Html.{spanned}

-- a count of numbers, one after the other, from n on
abbrev pub numbers_from : ℕ → ℕ → List ℕ
numbers_from n zero = []
numbers_from n (suc many) = n ∷ numbers_from (n + 1) many

-- the tag of the span that a node stands in, by the node's number
abbrev pub span_at : Tree → ℕ → Option Tag
span_at root n = spanned (tag_of (at root n))

-- the tags of the spans that all nodes stand in, in preorder
abbrev pub spans : Tree → List (Option Tag)
spans root = map (span_at root) (numbers_from 0 (nodes root))
