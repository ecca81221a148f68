-- A tree's text as HTML, and what a reader sees of HTML.
use Rattle.std.specs.Prelude.{ℕ, ◌+◌, ◌==◌, List, [], ◌∷◌, ◌++◌, Option, None, Some, codes, if◌then◌else◌}
use Rattle.std.specs.Str.{bytes_eq}
use Rattle.typst_tree.specs.Tree.{Forest, none, more, Tree, count}
use Rattle.typst_tree.specs.Steps.{at}
use Rattle.typst_highlight.specs.declared.tags.Tag.{Tag}
use Rattle.typst_highlight.specs.declared.tags.Tag.TheVariants as tag
use Rattle.typst_highlight.specs.Tags.{class_of}
use Rattle.typst_highlight.specs.Nodes.{tag_of}

-- a byte as HTML: an entity for each of & < > ' and "
abbrev pub escaped_byte : ℕ → List ℕ
escaped_byte b =
    if b == 38 then codes "&amp;" else
    if b == 60 then codes "&lt;" else
    if b == 62 then codes "&gt;" else
    if b == 39 then codes "&#39;" else
    if b == 34 then codes "&quot;" else b ∷ []

-- a text as HTML
abbrev pub escaped : List ℕ → List ℕ
escaped [] = []
escaped (b ∷ bs) = escaped_byte b ++ escaped bs

-- the tag that begins a span
abbrev pub opening : Tag → List ℕ
opening t = codes "<span class=\"" ++ (class_of t ++ codes "\">")

-- the tag of the span that a node stands in. An error has none
abbrev pub spanned : Option Tag → Option Tag
spanned (Some tag.Error) = None
spanned t = t

abbrev pub span_start : Option Tag → List ℕ
span_start None = []
span_start (Some t) = opening t

abbrev pub span_end : Option Tag → List ℕ
span_end None = []
span_end (Some t) = codes "</span>"

-- trees that stand side by side, where the first has the number n: each node's own text and its children, in the span of its tag
abbrev pub row_html : Tree → ℕ → Forest → List ℕ
row_html root n none = []
row_html root n (more h ks r) =
    let t : Option Tag = spanned (tag_of (at root n)) in
    (span_start t ++ (escaped h.text ++ (row_html root (n + 1) ks ++ span_end t))) ++ row_html root (n + (1 + count ks)) r

-- the HTML of a tree
abbrev pub html_of : Tree → List ℕ
html_of root = codes "<code>" ++ (row_html root 0 (more root.head root.kids none) ++ codes "</code>")

-- how a reader stands in HTML: in text, in a tag, or after the & of an entity and the bytes of its name so far
pub data Reading : Type 0 where
  plain : Reading
  tagged : Reading
  entity : List ℕ → Reading

-- what an entity stands for
abbrev pub entity_text : List ℕ → List ℕ
entity_text name =
    if bytes_eq name (codes "amp") then 38 ∷ [] else
    if bytes_eq name (codes "lt") then 60 ∷ [] else
    if bytes_eq name (codes "gt") then 62 ∷ [] else
    if bytes_eq name (codes "#39") then 39 ∷ [] else
    if bytes_eq name (codes "quot") then 34 ∷ [] else []

-- how the reader stands after a byte
abbrev pub next_reading : Reading → ℕ → Reading
next_reading plain b = if b == 60 then tagged else if b == 38 then entity [] else plain
next_reading tagged b = if b == 62 then plain else tagged
next_reading (entity name) b = if b == 59 then plain else entity (name ++ b ∷ [])

-- what the reader sees of a byte
abbrev pub read_byte : Reading → ℕ → List ℕ
read_byte plain b = if b == 60 then [] else if b == 38 then [] else b ∷ []
read_byte tagged b = []
read_byte (entity name) b = if b == 59 then entity_text name else []

-- what a reader sees of HTML: tags removed, and entities read back
abbrev pub read : Reading → List ℕ → List ℕ
read r [] = []
read r (b ∷ bs) = read_byte r b ++ read (next_reading r b) bs
