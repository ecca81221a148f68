-- Operators: the kinds that stand for them, how tightly they bind, and on which side first.
use Rattle.std.specs.Prelude.{ℕ, Option, None, Some}
use Rattle.typst_kinds.specs.declared.kind.SyntaxKind.{SyntaxKind}
use Rattle.typst_kinds.specs.declared.kind.SyntaxKind.TheVariants as kind
use Rattle.typst_kinds.specs.declared.operator.UnOp.{UnOp}
use Rattle.typst_kinds.specs.declared.operator.UnOp.TheVariants.{Pos, Neg, Not}
use Rattle.typst_kinds.specs.declared.operator.BinOp.{BinOp}
use Rattle.typst_kinds.specs.declared.operator.BinOp.TheVariants.{Add, Sub, Mul, Div, And, Or, Eq, Neq, Lt, Leq, Gt, Geq, Assign, In, NotIn, AddAssign, SubAssign, MulAssign, DivAssign}
use Rattle.typst_kinds.specs.declared.operator.Assoc.{Assoc}
use Rattle.typst_kinds.specs.declared.operator.Assoc.TheVariants.{Left, Right}

-- the unary operator that a token of this kind is
abbrev pub unary_of : SyntaxKind → Option UnOp
unary_of kind.Plus = Some Pos
unary_of kind.Minus = Some Neg
unary_of kind.Not = Some Not
unary_of _ = None

-- the binary operator that a token of this kind is; `not in` is two tokens
abbrev pub binary_of : SyntaxKind → Option BinOp
binary_of kind.Plus = Some Add
binary_of kind.Minus = Some Sub
binary_of kind.Star = Some Mul
binary_of kind.Slash = Some Div
binary_of kind.And = Some And
binary_of kind.Or = Some Or
binary_of kind.EqEq = Some Eq
binary_of kind.ExclEq = Some Neq
binary_of kind.Lt = Some Lt
binary_of kind.LtEq = Some Leq
binary_of kind.Gt = Some Gt
binary_of kind.GtEq = Some Geq
binary_of kind.Eq = Some Assign
binary_of kind.In = Some In
binary_of kind.PlusEq = Some AddAssign
binary_of kind.HyphEq = Some SubAssign
binary_of kind.StarEq = Some MulAssign
binary_of kind.SlashEq = Some DivAssign
binary_of _ = None

-- signs bind tightest of all operators, `not` as a comparison
abbrev pub unary_precedence : UnOp → ℕ
unary_precedence Pos = 7
unary_precedence Neg = 7
unary_precedence Not = 4

-- products, sums, comparisons, `and`, `or`, assignments: from the tightest to the loosest
abbrev pub binary_precedence : BinOp → ℕ
binary_precedence Mul = 6
binary_precedence Div = 6
binary_precedence Add = 5
binary_precedence Sub = 5
binary_precedence Eq = 4
binary_precedence Neq = 4
binary_precedence Lt = 4
binary_precedence Leq = 4
binary_precedence Gt = 4
binary_precedence Geq = 4
binary_precedence In = 4
binary_precedence NotIn = 4
binary_precedence And = 3
binary_precedence Or = 2
binary_precedence Assign = 1
binary_precedence AddAssign = 1
binary_precedence SubAssign = 1
binary_precedence MulAssign = 1
binary_precedence DivAssign = 1

-- assignments are taken from the right, all others from the left
abbrev pub assoc_of : BinOp → Assoc
assoc_of Assign = Right
assoc_of AddAssign = Right
assoc_of SubAssign = Right
assoc_of MulAssign = Right
assoc_of DivAssign = Right
assoc_of _ = Left
