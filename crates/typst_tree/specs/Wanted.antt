-- What each kind of search looks for.
use Rattle.std.specs.Prelude.{ℕ, Bool}
use Rattle.typst_tree.specs.Tree.{Tree}
use Rattle.typst_tree.specs.Walks.{is_leaf_from, has_span, has_number}
use Rattle.typst_tree.specs.declared.search.Search.{Search}
use Rattle.typst_tree.specs.declared.search.Search.TheVariants as search

-- whether a search looks for a node, by the node's number in preorder, its offset and the node
-- itself
abbrev pub wanted : Search → ℕ → ℕ → Tree → Bool
wanted (search.LeafFrom k) = is_leaf_from k
wanted (search.Spanned span) = has_span span
wanted (search.Numbered m) = has_number m
