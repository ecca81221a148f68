-- The node of a name with fields.
use Rattle.std.specs.Prelude.{ℕ, if◌then◌else◌, ◌==◌, List, [], ◌∷◌, codes, encode_utf8_all}
use Rattle.typst_kinds.specs.declared.kind.SyntaxKind.TheVariants as kind
use Rattle.typst_tree.specs.Tree.{Tree, forest, leaf_of, inner_of}

-- Names with one more character before the first of them.
abbrev pub longer : ℕ → List (List ℕ) → List (List ℕ)
longer c [] = (c ∷ []) ∷ []
longer c (name ∷ names) = (c ∷ name) ∷ names

-- The names between dots.
abbrev pub names_of : List ℕ → List (List ℕ)
names_of [] = [] ∷ []
names_of (c ∷ cs) = if c == 46 then [] ∷ names_of cs else longer c (names_of cs)

-- The node of a name without fields.
abbrev pub name_node : List ℕ → Tree
name_node name = leaf_of kind.MathIdent (encode_utf8_all name)

-- A field of what is to the left of its dot.
abbrev pub field_node : Tree → List ℕ → Tree
field_node left name = inner_of kind.MathFieldAccess (forest (left ∷ leaf_of kind.Dot (codes ".") ∷ name_node name ∷ []))

-- Fields one after another: each takes all that is to its left into its node.
abbrev pub fields_node : Tree → List (List ℕ) → Tree
fields_node left [] = left
fields_node left (name ∷ names) = fields_node (field_node left name) names

-- The node of names with dots between them.
abbrev pub named_node : List (List ℕ) → Tree
named_node [] = name_node []
named_node (name ∷ names) = fields_node (name_node name) names

-- A name with fields, by its characters.
unfoldable pub access_node : List ℕ → Tree
access_node taken = named_node (names_of taken)
