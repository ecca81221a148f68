-- The stretches of a tree's text, with their tags.
use Rattle.std.specs.Prelude.{◌≡◌, ℕ, ◌+◌, ◌≤◌, ◌==◌, List, [], ◌∷◌, ◌++◌, Option, None, length, if◌then◌else◌}
use Rattle.typst_tree.specs.Tree.{Forest, none, more, Tree, count, joined, saturated}
use Rattle.typst_tree.specs.Steps.{at}
use Rattle.typst_highlight.specs.declared.tags.Tag.{Tag}
use Rattle.typst_highlight.specs.declared.stretches.Tagged.{Tagged}
use Rattle.typst_highlight.specs.Html.{spanned}
use Rattle.typst_highlight.specs.Names.{first_tag}
use Rattle.typst_highlight.specs.Nodes.{tag_of}

-- a text from a byte on as one stretch of a tag. An empty text is none
abbrev pub stretch : ℕ → List ℕ → Option Tag → List Tagged
stretch a text t =
    if length text == 0 then [] else record { range = record { start = a; end = saturated (a + length text) }; tag = t } ∷ []

-- trees that stand side by side in a span of the tag u, where the first has the number n and begins at byte a: each node's own text and its children, with the tag of its span, or else u
abbrev pub row_stretches : Tree → ℕ → ℕ → Option Tag → Forest → List Tagged
row_stretches root n a u none = []
row_stretches root n a u (more h ks r) =
    let t : Option Tag = first_tag (spanned (tag_of (at root n))) u in
    stretch a h.text t ++ (row_stretches root (n + 1) (saturated (a + length h.text)) t ks ++ row_stretches root (n + (1 + count ks)) (saturated (a + length (h.text ++ joined ks))) u r)

-- the stretches of a tree
abbrev pub stretches : Tree → List Tagged
stretches root = row_stretches root 0 0 None (more root.head root.kids none)

-- the stretches follow one on another from byte a to byte b
abbrev pub AreJoined : ℕ → List Tagged → ℕ → Type 0
AreJoined a [] b = a ≡ b
AreJoined a (s ∷ rest) b = (s.range.start ≡ a) × ((a ≤ s.range.end) × AreJoined s.range.end rest b)
