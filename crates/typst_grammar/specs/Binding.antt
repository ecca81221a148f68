-- How the operands of binary operators bind.
use Rattle.std.specs.Prelude.{◌≡◌, ℕ, suc, Bool, true, false, ◌&&◌, ◌||◌, if◌then◌else◌, nat_le, List, [], ◌∷◌, Option, Some, None, codes}
use Rattle.typst_kinds.specs.Kinds.{same, is_error, is_trivia}
use Rattle.typst_kinds.specs.Operators.{binary_of, binary_precedence, assoc_of}
use Rattle.typst_kinds.specs.declared.kind.SyntaxKind.{SyntaxKind}
use Rattle.typst_kinds.specs.declared.kind.SyntaxKind.TheVariants as kind
use Rattle.typst_kinds.specs.declared.operator.Assoc.TheVariants.{Left, Right}
use Rattle.typst_kinds.specs.declared.operator.BinOp.{BinOp}
use Rattle.typst_kinds.specs.declared.operator.BinOp.TheVariants as binary
use Rattle.typst_tree.specs.Tree.{Tree, Forest, trees, leaf_of, inner_of, forest}
use Rattle.typst_tree.specs.Tree.Forest.{none, more}
use Rattle.typst_lines.specs.Classes.{CharClasses, by_law}
use Rattle.typst_grammar.specs.Grammar.{tree, tree_code, tree_math}

-- ---- errors

-- whether one of several trees has an error in it
abbrev pub any_errors : Forest → Bool
any_errors none = false
any_errors (more h ks r) = is_error h.kind || (any_errors ks || any_errors r)

-- whether a tree has an error in it
abbrev pub has_errors : Tree → Bool
has_errors t = is_error t.head.kind || any_errors t.kids

-- ---- operators and operands

-- the binary operator that a node of this kind is, after `not` or not: `in` after `not` is `not in`
abbrev pub sign_after : Bool → SyntaxKind → Option BinOp
sign_after after_not k = if after_not && same kind.In k then Some binary.NotIn else binary_of k

-- the first operator among several nodes; `not` alone isn't one, and is remembered
abbrev pub first_sign : Bool → List Tree → Option BinOp
first_sign after_not [] = None
first_sign after_not (t ∷ ts) = elim (sign_after after_not t.head.kind) [ None ↦ first_sign (after_not || same kind.Not t.head.kind) ts | Some op ↦ Some op ]

-- the operator of a node, if it is a binary one
abbrev pub operator_of : Tree → Option BinOp
operator_of t = if same kind.Binary t.head.kind then first_sign false (trees t.kids) else None

-- whether a node binds at least so tightly, if it is a binary one
abbrev pub binds_by : ℕ → Tree → Bool
binds_by least t = elim (operator_of t) [ None ↦ true | Some op ↦ nat_le least (binary_precedence op) ]

-- whether the left operand binds at least so tightly: the first of several nodes that isn't trivia
abbrev pub left_binds : ℕ → List Tree → Bool
left_binds least [] = true
left_binds least (t ∷ ts) = if is_trivia t.head.kind then left_binds least ts else binds_by least t

-- whether the right operand binds at least so tightly: the last of several nodes
abbrev pub right_binds : ℕ → List Tree → Bool
right_binds least [] = true
right_binds least (t ∷ []) = binds_by least t
right_binds least (t ∷ u ∷ ts) = right_binds least (u ∷ ts)

-- how tightly a right operand has to bind: more tightly than its operator, or as tightly if that is
-- taken from the right
abbrev pub right_least : BinOp → ℕ
right_least op = elim (assoc_of op) [ Left ↦ suc (binary_precedence op) | Right ↦ binary_precedence op ]

-- whether the operands of an operator, among the children of its node, bind as tightly as it asks for
abbrev pub operands_bind : BinOp → List Tree → Bool
operands_bind op ts = left_binds (binary_precedence op) ts && right_binds (right_least op) ts

-- ---- trees

-- whether the operands of a node, if it is a binary one, bind as tightly as its operator asks for
abbrev pub node_binds : Tree → Bool
node_binds t = elim (operator_of t) [ None ↦ true | Some op ↦ operands_bind op (trees t.kids) ]

-- whether the operands of each node of several trees bind so
abbrev pub all_bind : Forest → Bool
all_bind none = true
all_bind (more h ks r) = node_binds (record { head = h; kids = ks }) && (all_bind ks && all_bind r)

-- whether the operands of each node of a tree bind so
abbrev pub binds : Tree → Bool
binds t = node_binds t && all_bind t.kids

-- ---- the law

-- In the tree of a text, if it has no errors, the operands of each operator bind as tightly as it
-- asks for.
abbrev pub BindingLaw : Type 0
BindingLaw = (k : CharClasses) (text : List ℕ) → has_errors (tree k text) ≡ false → binds (tree k text) ≡ true

-- In the tree of a text of code, if it has no errors, operands bind as their operators ask for.
abbrev pub CodeBindingLaw : Type 0
CodeBindingLaw = (k : CharClasses) (text : List ℕ) → has_errors (tree_code k text) ≡ false → binds (tree_code k text) ≡ true

-- In the tree of the text of a formula, if it has no errors, operands bind as their operators ask
-- for.
abbrev pub MathBindingLaw : Type 0
MathBindingLaw = (k : CharClasses) (text : List ℕ) → has_errors (tree_math k text) ≡ false → binds (tree_math k text) ≡ true

-- ---- what it says of short texts

-- an identifier
abbrev pub name : List ℕ → Tree
name s = leaf_of kind.Ident s

-- two operands and the signs between them
abbrev pub between : Tree → List Tree → Tree → Tree
between left signs right = inner_of kind.Binary (forest (left ∷ with_right signs right))
  where
    with_right : List Tree → Tree → List Tree
    with_right [] right = right ∷ []
    with_right (t ∷ ts) right = t ∷ with_right ts right

-- a sign of one token
abbrev pub sign : SyntaxKind → List ℕ → List Tree
sign k s = leaf_of k s ∷ []

-- the sign `*`
abbrev pub star : List Tree
star = sign kind.Star (codes "*")

-- the sign `+`
abbrev pub plus : List Tree
plus = sign kind.Plus (codes "+")

-- the sign `=`
abbrev pub equals : List Tree
equals = sign kind.Eq (codes "=")

-- the sign `not in`, which is two tokens
abbrev pub not_in : List Tree
not_in = leaf_of kind.Not (codes "not") ∷ leaf_of kind.Space (codes " ") ∷ leaf_of kind.In (codes "in") ∷ []

-- the identifier `a`
abbrev pub a : Tree
a = name (codes "a")

-- the identifier `b`
abbrev pub b : Tree
b = name (codes "b")

-- the identifier `c`
abbrev pub c : Tree
c = name (codes "c")

-- Which nodes have operands that bind as their operators ask for, and that those of the trees of
-- short texts do, for every class value that keeps the law on ASCII.
pub record Bindings (beyond : CharClasses) : Type 0 where
  -- a product is an operand of a sum, and a sum none of a product
  pub product_left : binds (between (between a star b) plus c) ≡ true
  pub sum_left : binds (between (between a plus b) star c) ≡ false
  pub product_right : binds (between a plus (between b star c)) ≡ true
  pub sum_right : binds (between a star (between b plus c)) ≡ false
  -- sums are taken from the left, and assignments from the right
  pub sums_left : binds (between (between a plus b) plus c) ≡ true
  pub sums_right : binds (between a plus (between b plus c)) ≡ false
  pub assigned_right : binds (between a equals (between b equals c)) ≡ true
  -- `not in` is one operator, which binds more tightly than `or`
  pub not_in_left : binds (between (between a not_in b) (sign kind.Or (codes "or")) c) ≡ true
  pub not_in_right : binds (between a not_in (between b (sign kind.Or (codes "or")) c)) ≡ false
  -- the trees of these texts
  pub products : binds (tree_code (by_law beyond) (codes "a * b + c")) ≡ true
  pub sums : binds (tree_code (by_law beyond) (codes "a + b * c")) ≡ true
  pub assignments : binds (tree_code (by_law beyond) (codes "a = b = c")) ≡ true
  pub negation : binds (tree_code (by_law beyond) (codes "a not in b or c")) ≡ true
  -- what is missing is an error
  pub missing : has_errors (tree_code (by_law beyond) (codes "a not b")) ≡ true
