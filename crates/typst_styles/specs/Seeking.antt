-- The tokens of a tree, node by node, and what is left of a walk that leaves out what a range doesn't touch (of private clauses).
use Rattle.std.specs.Prelude.{◌≡◌, ℕ, ◌+◌, ◌<◌, Bool, true, List, [], ◌∷◌, ◌++◌, length, map, Option, None, Some}
use Rattle.std.specs.declared.ops.Range.{Range}
use Rattle.typst_kinds.specs.Head.{Head}
use Rattle.typst_tree.specs.Tree.{Forest, none, more, Tree, count, forest}
use Rattle.typst_tree.specs.Walks.{numbers}
use Rattle.typst_tree.specs.Steps.{At, at, children, node_of}
use Rattle.typst_tree.specs.Linked.{linked, left}
use Rattle.typst_highlight.specs.declared.tags.Tag.{Tag}
use Rattle.typst_highlight.specs.Html.{spanned}
use Rattle.typst_highlight.specs.Names.{first_tag}
use Rattle.typst_highlight.specs.Nodes.{tag_of}
use Rattle.typst_highlight.specs.Walk.{tree_of}
use Rattle.typst_names.specs.Bytes.{inner, behind}
use Rattle.typst_names.specs.Contexts.{after, below, role_of}
use Rattle.typst_names.specs.Names.{is_end}
use Rattle.typst_names.specs.RoleRows.{steps}
use Rattle.typst_names.specs.declared.contexts.Context.{Context}
use Rattle.typst_names.specs.declared.contexts.Context.TheVariants as context
use Rattle.typst_names.specs.declared.contexts.Role.{Role}
use Rattle.typst_styles.specs.Styles.{style_of}
use Rattle.typst_styles.specs.Tokens.{stretch, touching}
use Rattle.typst_styles.specs.declared.seeking.Row.{Row}
use Rattle.typst_styles.specs.declared.seeking.Spot.{Spot}
use Rattle.typst_styles.specs.declared.tokens.Token.{Token}

-- ---- tokens, node by node

-- the tag that the text of the node n is shown by, in a span of the tag u
abbrev pub tag_in : Tree → ℕ → Option Tag → Option Tag
tag_in root n u = first_tag (spanned (tag_of (at root n))) u

-- the tokens of a node's own text, which begins at byte a
abbrev pub own : List ℕ → Option Tag → Option Role → ℕ → Head → List Token
own text t role a h = stretch text a (inner a h) (style_of t role)

-- the tokens of trees side by side, where the first has the number n and begins at byte a, in a span of the tag u and in a context: of each node its own and those of its children
abbrev pub row : List ℕ → Tree → ℕ → ℕ → Option Tag → Context → Forest → List Token
row text root n a u c none = []
row text root n a u c (more h ks r) =
    (own text (tag_in root n u) (role_of c h.kind (is_end r)) a h ++ row text root (n + 1) (inner a h) (tag_in root n u) (below c h.kind) ks)
    ++ row text root (n + (1 + count ks)) (behind a h ks) u (after c h.kind) r

-- the tokens of a tree, which is the last of trees side by side or isn't
abbrev pub node : List ℕ → Tree → ℕ → ℕ → Option Tag → Context → Bool → Tree → List Token
node text root n a u c is_last t =
    own text (tag_in root n u) (role_of c t.head.kind is_last) a t.head ++ row text root (n + 1) (inner a t.head) (tag_in root n u) (below c t.head.kind) t.kids

-- ---- what is left of a walk

-- the nodes of trees side by side are those of the tree from the number n on
abbrev pub Standing : Tree → ℕ → Forest → Type 0
Standing root n none = Unit {0}
Standing root n (more h ks r) = (node_of (at root n) ≡ tree_of h ks) × (Standing root (n + 1) ks × Standing root (n + (1 + count ks)) r)

-- the number of the first of some nodes
abbrev pub first_number : List At → ℕ
first_number [] = 0
first_number (a ∷ rest) = a.number

-- the number of the first node of a row
abbrev pub number : Row → ℕ
number w = first_number (left w.places)

-- a row's nodes stand in the tree, at the row's places
pub record IsRow (root : Tree) (w : Row) : Type 0 where
  pub places : left w.places ≡ map (at root) (numbers (number w) (forest w.nodes.now))
  pub standing : Standing root (number w) (forest w.nodes.now)

-- each of some rows is a row of the tree
abbrev pub AreRows : Tree → List Row → Type 0
AreRows root [] = Unit {0}
AreRows root (w ∷ ws) = IsRow root w × AreRows root ws

-- a node stands in the tree, at its place
pub record IsSpot (root : Tree) (s : Spot) : Type 0 where
  pub place : linked s.place ≡ at root (linked s.place).number
  pub standing : Standing root (linked s.place).number (more s.node.node.now.head s.node.node.now.kids none)

-- a node is the root, as a walk begins at it
pub record IsTop (root : Tree) (s : Spot) : Type 0 where
  pub place : linked s.place ≡ at root 0
  pub tree : s.node.node.now ≡ root
  pub start : s.node.start ≡ 0
  pub role_in : s.context ≡ context.Value
  pub around : s.around ≡ None
  pub is_last : s.is_last ≡ true

-- the tokens of a node
abbrev pub of_spot : List ℕ → Tree → Spot → List Token
of_spot text root s = node text root (linked s.place).number s.node.start s.around s.context s.is_last s.node.node.now

-- the tokens that are left of a row
abbrev pub left_of : List ℕ → Tree → Row → List Token
left_of text root w = row text root (number w) w.start w.around w.context (forest w.nodes.now)

-- the tokens that are left of rows, of which the last one comes first
abbrev pub left_of_all : List ℕ → Tree → List Row → List Token
left_of_all text root [] = []
left_of_all text root (w ∷ ws) = left_of_all text root ws ++ left_of text root w

-- the row of the children of a node
pub record Below (s : Spot) (w : Row) : Type 0 where
  pub placed : left w.places ≡ children (linked s.place)
  pub kids : forest w.nodes.now ≡ s.node.node.now.kids

-- a node was gone into: its own tokens were added, and a row of its children was made
pub record Opens (text : List ℕ) (s : Spot) (old new : List Token) (w : Row) : Type 0 where
  pub kids : Below s w
  pub start : w.start ≡ inner s.node.start s.node.node.now.head
  pub around : w.around ≡ first_tag (spanned (tag_of (linked s.place))) s.around
  pub role_in : w.context ≡ below s.context s.node.node.now.head.kind
  pub added : new ≡ old ++ stretch text s.node.start w.start (style_of w.around (role_of s.context s.node.node.now.head.kind s.is_last))

-- a row of all children of the root
pub record IsWhole (root : Tree) (w : Row) : Type 0 where
  pub placed : left w.places ≡ children (at root 0)
  pub kids : forest w.nodes.now ≡ root.kids
  pub start : w.start ≡ inner 0 root.head

-- the first node of a row was taken out, or there is none
abbrev pub Takes : Tree → Row → Option Spot → Row → Type 0
Takes root w None v = (text : List ℕ) → left_of text root w ≡ []
Takes root w (Some s) v = IsSpot root s × (IsRow root v × ((text : List ℕ) → left_of text root w ≡ of_spot text root s ++ left_of text root v))

-- the tokens of the first of some trees side by side
abbrev pub of_first : List ℕ → Tree → ℕ → ℕ → Option Tag → Context → List Tree → List Token
of_first text root n a u c [] = []
of_first text root n a u c (t ∷ ts) = node text root n a u c (is_end (forest ts)) t

-- the first node of a row was passed, if there is one: its tokens are those that are left no more
abbrev pub Passes : Tree → Row → Row → Type 0
Passes root w v = IsRow root v × ((text : List ℕ) → left_of text root w ≡ of_first text root (number w) w.start w.around w.context w.nodes.now ++ left_of text root v)

-- some nodes of a row were passed, which the range doesn't touch
abbrev pub Skips : Range ℕ → List ℕ → Tree → Row → Row → Type 0
Skips range text root w v = IsRow root v × (touching range (left_of text root v) ≡ touching range (left_of text root w))

-- the nodes of a row up to one that may touch a range were taken out, or there is none; those before it don't touch the range
abbrev pub Seeks : Range ℕ → List ℕ → Tree → Row → Option Spot → Row → Type 0
Seeks range text root w None v = touching range (left_of text root w) ≡ []
Seeks range text root w (Some s) v = IsSpot root s × (IsRow root v × (touching range (left_of text root w) ≡ touching range (of_spot text root s ++ left_of text root v)))

-- how many steps a row takes at most
abbrev pub steps_left : Row → ℕ
steps_left w = 1 + steps (forest w.nodes.now)

-- a row of which a node was passed takes fewer steps, if it had one
abbrev pub IsShorter : Row → Row → Type 0
IsShorter w v = 0 < length w.nodes.now → steps_left v < steps_left w

-- how many steps some rows take at most
abbrev pub steps_all : List Row → ℕ
steps_all [] = 0
steps_all (w ∷ ws) = steps_all ws + steps_left w

-- a node that was taken out of a row, and what is below it, take fewer steps than the row did
abbrev pub IsFewer : Row → Option Spot → Row → Type 0
IsFewer w None v = Unit {0}
IsFewer w (Some s) v = 1 + steps s.node.node.now.kids + steps_left v < steps_left w
