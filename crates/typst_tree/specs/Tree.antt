-- A syntax tree as contracts see it, and the functions of it that contracts name.
use Rattle.std.specs.Prelude.{◌≡◌, ℕ, ◌+◌, ◌-◌, ◌^◌, ◌≤◌, Bool, ◌||◌, false, List, [], ◌∷◌, ◌++◌, None, min, zero, suc, refl, if◌then◌else◌}
use Rattle.std.specs.Coded.{Coded, code_by, coded×}
use Rattle.std.proofs.Common.{ap, subst, sym, arith}
use base.Stored.{Gv, gnil, gnum, gcons}
use denote.Param.Weighed.{most}
use Rattle.typst_kinds.specs.declared.kind.SyntaxKind.{SyntaxKind}
use Rattle.typst_kinds.specs.Kinds.{is_error}
use Rattle.typst_kinds.specs.Diagnostic.{Diagnostic, Hint, hint_with}
use Rattle.typst_kinds.specs.Span.{SpanValue}
use Rattle.typst_kinds.specs.Head.{Head, head_code, bare_head, spanned, leaf_head, inner_head, error_head, diagnosed, helped, has_any}

-- several trees: none, or a first one by its head and children, and then more
pub data Forest : Type 0 where
  none : Forest
  more : Head → Forest → Forest → Forest

-- one tree
pub record Tree : Type 0 where
  pub head : Head
  pub kids : Forest

-- the first half of a pair of codes
abbrev first : Gv → Gv
first gnil = gnil
first (gnum n) = gnil
first (gcons a b) = a

-- the second half of a pair of codes
abbrev rest : Gv → Gv
rest gnil = gnil
rest (gnum n) = gnil
rest (gcons a b) = b

-- a code is a pair
abbrev IsCons : Gv → Type 0
IsCons gnil = ⊥
IsCons (gnum n) = ⊥
IsCons (gcons a b) = Unit {0}

-- a forest as a code: the first tree's head and children, and the rest
abbrev code_of : Forest → Gv
code_of none = gnil
code_of (more h ks r) = gcons (head_code.code h) (gcons (code_of ks) (code_of r))

-- forests with the same code are the same
pub code_one_to_one : (f g : Forest) → code_of f ≡ code_of g → f ≡ g
code_one_to_one none none p = refl
code_one_to_one none (more h ks r) p = absurd (subst IsCons (sym p) tt)
code_one_to_one (more h ks r) none p = absurd (subst IsCons p tt)
code_one_to_one (more h ks r) (more h' ks' r') p = λ i.
    more (head_code.inj h h' (ap first p) i)
    (code_one_to_one ks ks' (ap (λ g. first (rest g)) p) i)
    (code_one_to_one r r' (ap (λ g. rest (rest g)) p) i)

-- how a forest is stored in ghost fields
abbrev pub forest_code : Coded Forest
forest_code = record { code = code_of; inj = code_one_to_one }

-- how a tree is stored in ghost fields
abbrev pub tree_code : Coded Tree
tree_code =
    code_by (Head × Forest) (coded× head_code forest_code) (λ t. (t.head, t.kids)) (λ p. record { head = p.0; kids = p.1 })
    (λ _. refl)

-- a list of trees as a forest
abbrev pub forest : List Tree → Forest
forest [] = none
forest (t ∷ ts) = more t.head t.kids (forest ts)

-- the trees of a forest
abbrev pub trees : Forest → List Tree
trees none = []
trees (more h ks r) = record { head = h; kids = ks } ∷ trees r

-- the texts of the leaves, in order
abbrev pub joined : Forest → List ℕ
joined none = []
joined (more h ks r) = h.text ++ (joined ks ++ joined r)

-- how many nodes there are
abbrev pub count : Forest → ℕ
count none = 0
count (more h ks r) = 1 + (count ks + count r)

-- the texts of a tree's leaves, in order
abbrev pub text_of : Tree → List ℕ
text_of t = t.head.text ++ joined t.kids

-- how many nodes a tree has, its root counted
abbrev pub nodes : Tree → ℕ
nodes t = 1 + count t.kids

-- a node of the forest has a diagnostic
abbrev pub have_diagnostics : Forest → Bool
have_diagnostics none = false
have_diagnostics (more h ks r) = has_any h.diagnostics || (have_diagnostics ks || have_diagnostics r)

-- the tree's root or a node below it has a diagnostic
abbrev pub has_diagnostics : Tree → Bool
has_diagnostics t = has_any t.head.diagnostics || have_diagnostics t.kids

-- the forest, spans aside
abbrev pub bare_forest : Forest → Forest
bare_forest none = none
bare_forest (more h ks r) = more (bare_head h) (bare_forest ks) (bare_forest r)

-- the tree, spans aside
abbrev pub bare : Tree → Tree
bare t = record { head = bare_head t.head; kids = bare_forest t.kids }

-- the nodes of a forest in preorder, each before its children
abbrev pub preorder : Forest → List Tree
preorder none = []
preorder (more h ks r) = record { head = h; kids = ks } ∷ (preorder ks ++ preorder r)

-- the nodes of a tree in preorder, its root first
abbrev pub places : Tree → List Tree
places t = t ∷ preorder t.kids

-- at most the largest usize
abbrev pub saturated : ℕ → ℕ
saturated n = min n (2 ^ 64 - 1)

-- no tree of some has more nodes than all of them together
pub most_le-count : (ts : List Tree) → most (λ t. nodes t + 1) ts ≤ count (forest ts) + 1
most_le-count [] = omega arith
most_le-count (t ∷ ts) = omega (arith, most_le-count ts)

-- each head of the forest changed
abbrev pub with_each : (Head → Head) → Forest → Forest
with_each set none = none
with_each set (more h ks r) = more (set h) (with_each set ks) (with_each set r)

-- the tree with one span at each node
abbrev pub synthesized : SpanValue → Tree → Tree
synthesized sp t = record { head = spanned sp t.head; kids = with_each (spanned sp) t.kids }

-- a leaf that was just made
abbrev pub leaf_of : SyntaxKind → List ℕ → Tree
leaf_of k s = record { head = leaf_head k s; kids = none }

-- an inner node that was just made
abbrev pub inner_of : SyntaxKind → Forest → Tree
inner_of k f = record { head = inner_head k; kids = f }

-- an error leaf that was just made, by its message and its text
abbrev pub error_of : List ℕ → List ℕ → Tree
error_of message s = record { head = error_head message s; kids = none }

-- the tree with another head
abbrev pub topped : Tree → Head → Tree
topped t h = record { head = h; kids = t.kids }

-- the tree as a node of another kind. An error stays as it is
abbrev pub with_kind : SyntaxKind → Tree → Tree
with_kind k t = if is_error t.head.kind then t else topped t (record t.head { kind = k })

-- one of several trees changed, by its place among them
abbrev pub at_tree : (Tree → Tree) → ℕ → Forest → Forest
at_tree f i none = none
at_tree f zero (more h ks r) = more (f (record { head = h; kids = ks })).head (f (record { head = h; kids = ks })).kids r
at_tree f (suc i) (more h ks r) = more h ks (at_tree f i r)

-- the tree with one child changed
abbrev pub at_child : (Tree → Tree) → ℕ → Tree → Tree
at_child f i t = record { head = t.head; kids = at_tree f i t.kids }

-- the tree as an error leaf of its text. An error stays as it is
abbrev pub made_error : List ℕ → Tree → Tree
made_error message t = if is_error t.head.kind then t else error_of message (text_of t)

-- the tree whose root has one more diagnostic
abbrev pub remarked : Diagnostic → Tree → Tree
remarked d t = topped t (diagnosed d t.head)

-- the tree whose root's last diagnostic, if there is one, has one more hint
abbrev pub advised : Hint → Tree → Tree
advised n t = topped t (helped n t.head)

-- the tree with a hint for each message, in their order
abbrev pub all_advised : List (List ℕ) → Tree → Tree
all_advised [] t = t
all_advised (message ∷ messages) t = all_advised messages (advised (hint_with None message) t)
