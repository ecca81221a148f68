-- Nodes with a hole: a place for one node, among several or in one of them, at any depth.
use Rattle.std.specs.Prelude.{◌≡◌, ℕ, suc, ◌-◌, ◌&&◌, if◌then◌else◌, nat_le, List, [], ◌∷◌, ◌++◌, length, map, take, drop, None, refl}
use Rattle.typst_kinds.specs.declared.kind.SyntaxKind.{SyntaxKind}
use Rattle.typst_kinds.specs.declared.kind.SyntaxKind.TheVariants as kind
use Rattle.typst_kinds.specs.Kinds.{is_error}
use Rattle.typst_kinds.specs.Head.{Head, inner_head}
use Rattle.typst_tree.specs.Diagnostic.{hint_with, warning_with}
use Rattle.typst_tree.specs.Tree.{Tree, forest, inner_of, error_of, with_kind, advised, remarked}
use Rattle.typst_language.specs.Shape.{NodeChange, first_changed, Shape, shaped, is_delimited, in_parens, renamed_last}
use Rattle.typst_language.specs.Shape.NodeChange.{stays, turns_wrong, is_not, renamed, unparened}
use Rattle.typst_language.specs.Shape.Shape.{keeps, holds, lacks, warns, fails}

-- a tree with a hole
pub data Deep : Type 0 where
  -- the tree is the hole
  bare : Deep
  -- the hole is in a child, between other children
  under : Head → List Tree → Deep → List Tree → Deep

-- the tree with this node in its hole
abbrev pub fill : Deep → Tree → Tree
fill bare x = x
fill (under head left d right) x = record { head = head; kids = forest (left ++ fill d x ∷ right) }

-- the head of the tree, if the hole's node has this head
abbrev pub top : Deep → Head → Head
top bare h = h
top (under head left d right) h = head

-- several nodes with a hole: some on the left, the one that is the hole or has it, and some on the
-- right
pub record Hole : Type 0 where
  pub left : List Tree
  pub deep : Deep
  pub right : List Tree

-- the nodes with this node in their hole
abbrev pub plug : Hole → Tree → List Tree
plug h x = h.left ++ fill h.deep x ∷ h.right

-- the child indices from a tree's root down to the hole
abbrev pub path_in : Deep → List ℕ
path_in bare = []
path_in (under head left d right) = length left ∷ path_in d

-- the index among the nodes, and from there the child indices down to the hole
abbrev pub path_of : Hole → List ℕ
path_of h = length h.left ∷ path_in h.deep

-- ---- the hole of what several nodes become

-- a tree without children, with the head of the tree with the hole, if the hole's node has this
-- head
abbrev pub stub : Deep → Head → Tree
stub d h = record { head = top d h; kids = forest [] }

-- the tree as a node of another kind; nothing if it is the hole itself, or would be an error, which
-- has no children
abbrev pub renamed_deep : SyntaxKind → Deep → List Deep
renamed_deep kind bare = []
renamed_deep kind (under head left d right) = if is_error kind then [] else under (record head { kind = kind }) left d right ∷ []

-- the tree as math whose first and last child become parens; nothing if one of these has the hole
abbrev pub between_parens : Head → List Tree → Deep → List Tree → List Deep
between_parens head [] d right = []
between_parens head (t ∷ left) d [] = []
between_parens head (t ∷ left) d (u ∷ right) = under (record head { kind = kind.Math }) (with_kind kind.LeftParen t ∷ left) d (renamed_last kind.RightParen (u ∷ right)) ∷ []

-- the tree without its parens in math, or as it is if it has none; nothing if it is the hole itself
-- and delimited
abbrev pub unparened_deep : Head → Deep → List Deep
unparened_deep h bare = if is_delimited h.kind then [] else bare ∷ []
unparened_deep h (under head left d right) = if is_delimited head.kind && in_parens (left ++ stub d h ∷ right) then between_parens head left d right else under head left d right ∷ []

-- the tree after a change; nothing if the change may make a text of it
abbrev pub changed_deep : NodeChange → Head → Deep → List Deep
changed_deep stays h d = d ∷ []
changed_deep (turns_wrong message) h d = []
changed_deep (is_not thing) h d = []
changed_deep (renamed kind) h d = renamed_deep kind d
changed_deep unparened h d = unparened_deep h d

-- the hole in the first of several nodes
abbrev pub first_hole : List Tree → Deep → Hole
first_hole right d = record { left = []; deep = d; right = right }

-- the hole after the first of the nodes was changed
abbrev pub change_hole : NodeChange → Head → List Tree → Deep → List Tree → List Hole
change_hole change h (t ∷ left) d right = record { left = first_changed change (t ∷ left); deep = d; right = right } ∷ []
change_hole change h [] d right = map (first_hole right) (changed_deep change h d)

-- the hole in a new node over all nodes, after `kept`; nothing if the node is an error, which has
-- no children
abbrev pub in_node : Head → List Tree → Hole → List Hole
in_node head kept h = if is_error head.kind then [] else record { left = kept; deep = under head h.left h.deep h.right; right = [] } ∷ []

-- the hole in a new node over all nodes, after `kept`, if there is a hole
abbrev pub in_nodes : Head → List Tree → List Hole → List Hole
in_nodes head kept [] = []
in_nodes head kept (h ∷ hs) = in_node head kept h

-- the hole with `kept` before its nodes, if there is a hole
abbrev pub after_nodes : List Tree → List Hole → List Hole
after_nodes kept [] = []
after_nodes kept (h ∷ hs) = record h { left = kept ++ h.left } ∷ []

-- the hole with an empty error put after the first `count` nodes, before or after the hole. In
-- `show [a]` the error comes after `show`: the index of `[a]` is 3; with 2 an edit would replace the
-- space
abbrev pub lack_hole : ℕ → Tree → List Tree → Deep → List Tree → Hole
lack_hole count error left d right =
    if nat_le count (length left)
    then record { left = take count left ++ error ∷ drop count left; deep = d; right = right }
    else record { left = left; deep = d; right = take (count - suc (length left)) right ++ error ∷ drop (count - suc (length left)) right }

-- Computed: the error is the second node, whether the hole is the second of the other nodes or the
-- first. On the other side of the hole it would stand in the node's place, and the path would lead
-- to it.
lacks_before : (error a : Tree) → lack_hole 1 error (a ∷ []) bare [] ≡ record { left = a ∷ error ∷ []; deep = bare; right = [] }
lacks_before error a = refl

lacks_behind : (error a : Tree) → lack_hole 1 error [] bare (a ∷ []) ≡ record { left = []; deep = bare; right = error ∷ a ∷ [] }
lacks_behind error a = refl

-- the head of an inner node with a warning and its hint
abbrev pub warned_head : SyntaxKind → List ℕ → List ℕ → Head
warned_head kind message hint = (advised (hint_with None hint) (remarked (warning_with None message) (inner_of kind (forest [])))).head

-- the hole after its nodes went into a shape, with `kept` before them; nothing if they became an
-- error of their text, or the change may make the hole's node another. In `*#[a]*` the hole for `[a]`
-- comes to be in the Strong node; in `#f([a]: 1)` `[a]` becomes an error (`name_change` of
-- Arguments.antt), and there is no node that an edit could replace
abbrev pub wrap_in : Shape → Head → List Tree → List Tree → Deep → List Tree → List Hole
wrap_in (keeps change) h kept left d right = after_nodes kept (change_hole change h left d right)
wrap_in (holds change kind) h kept left d right = in_nodes (inner_head kind) kept (change_hole change h left d right)
wrap_in (lacks count message kind) h kept left d right = in_node (inner_head kind) kept (lack_hole count (error_of message []) left d right)
wrap_in (warns kind message hint) h kept left d right = in_node (warned_head kind message hint) kept (record { left = left; deep = d; right = right })
wrap_in (fails message) h kept left d right = []

-- Computed: in a new node the hole stands where its node did, and what stood before the new node
-- does still; in an error there is none, as it has a text and no children, so an edit in such a block
-- is never read alone.
wraps_in : (h : Head) (x a b : Tree) → wrap_in (holds stays kind.Equation) h (x ∷ []) (a ∷ []) bare (b ∷ []) ≡ record { left = x ∷ []; deep = under (inner_head kind.Equation) (a ∷ []) bare (b ∷ []); right = [] } ∷ []
wraps_in h x a b = refl

wraps_none : (h : Head) (message : List ℕ) (a b : Tree) → wrap_in (fails message) h [] (a ∷ []) bare (b ∷ []) ≡ []
wraps_none h message a b = refl

-- the hole after nodes to its right, all but the first j, went into a shape
abbrev pub wrap_past : Shape → ℕ → Hole → Hole
wrap_past shape j h = record h { right = take j h.right ++ shaped shape (drop j h.right) }

-- the hole after all nodes but the first k went into a shape, where the hole's node has the head h:
-- it is in the shape's node, or before it, or lost. For `[a](b)`, which becomes a call, the hole
-- for `[a]` comes to be the first child of the call; with its old path an edit would replace the call
abbrev pub wrap_hole : Shape → Head → ℕ → Hole → List Hole
wrap_hole shape h k hole =
    if nat_le k (length hole.left)
    then wrap_in shape h (take k hole.left) (drop k hole.left) hole.deep hole.right
    else wrap_past shape (k - suc (length hole.left)) hole ∷ []

-- Computed: a call takes the hole into it as its first child, and one that begins after the hole
-- leaves it outside, before the call. With the other place for either a path would lead past the
-- block.
wraps_around : (h : Head) (args : Tree) → wrap_hole (holds stays kind.FuncCall) h 0 (record { left = []; deep = bare; right = args ∷ [] })
    ≡ record { left = []; deep = under (inner_head kind.FuncCall) [] bare (args ∷ []); right = [] } ∷ []
wraps_around h args = refl

wraps_past : (h : Head) (name args : Tree) → wrap_hole (holds stays kind.FuncCall) h 1 (record { left = []; deep = bare; right = name ∷ args ∷ [] })
    ≡ record { left = []; deep = bare; right = inner_of kind.FuncCall (forest (name ∷ args ∷ [])) ∷ [] } ∷ []
wraps_past h name args = refl
