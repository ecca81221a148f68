-- Expressions of code.
use Rattle.std.specs.Prelude.{ℕ, suc, Bool, false, not, ◌&&◌, if◌then◌else◌, nat_lt, [], ◌∷◌, Option, Some, None, codes}
use Rattle.typst_kinds.specs.Kinds.{same}
use Rattle.typst_kinds.specs.Operators.{binary_of, unary_precedence, binary_precedence, assoc_of}
use Rattle.typst_kinds.specs.declared.kind.SyntaxKind.{SyntaxKind}
use Rattle.typst_kinds.specs.declared.kind.SyntaxKind.TheVariants as kind
use Rattle.typst_kinds.specs.declared.operator.Assoc.TheVariants.{Left, Right}
use Rattle.typst_kinds.specs.declared.operator.BinOp.{BinOp}
use Rattle.typst_kinds.specs.declared.operator.BinOp.TheVariants as binary
use Rattle.typst_kinds.specs.declared.operator.UnOp.{UnOp}
use Rattle.typst_kinds.specs.declared.operator.UnOp.TheVariants as unary
use Rattle.typst_language.specs.declared.calls.Block.TheVariants as block
use Rattle.typst_language.specs.Calls.Call.{CodeExpr}
use Rattle.typst_language.specs.Shape.{Shape, becomes}
use Rattle.typst_language.specs.Syntax.{Parser, ◌>>=◌, ◌>>◌}
use Rattle.typst_language.specs.Syntax.Op.{further}
use Rattle.typst_language.specs.Syntax.Parser.{gives, does, pick}
use Rattle.typst_language.specs.Steps.{peek, eat, unexpected, expected, node, grow, read_block}
use Rattle.typst_language.specs.Depth.{deeper}
use Rattle.typst_markup.specs.Equations.{equation}
use Rattle.typst_bindings.specs.Bindings.{let_binding}
use Rattle.typst_bindings.specs.Closures.{named, placeholder}
use Rattle.typst_code.specs.declared.heads.CodeHead.{CodeHead}
use Rattle.typst_code.specs.declared.heads.CodeHead.TheVariants as head
use Rattle.typst_code.specs.declared.heads.CodeTail.{CodeTail}
use Rattle.typst_code.specs.declared.heads.CodeTail.TheVariants as tail
use Rattle.typst_code.specs.Arguments.{arguments, calls_directly}
use Rattle.typst_code.specs.Groups.{group}
use Rattle.typst_code.specs.Imports.{module_import}
use Rattle.typst_code.specs.Parens.{parens}
use Rattle.typst_code.specs.Statements.{field, set_rule, show_rule, contextual, conditional, while_loop, for_loop, module_include, jump, func_return}

-- ---- what an expression begins with

-- what the current token begins, in an atomic expression or in another
abbrev pub code_head : Bool → SyntaxKind → CodeHead
code_head atomic kind.Plus = if atomic then head.StrayOperator else head.Unary unary.Pos
code_head atomic kind.Minus = if atomic then head.StrayOperator else head.Unary unary.Neg
code_head atomic kind.Not = if atomic then head.StrayOperator else head.Unary unary.Not
code_head atomic kind.Ident = if atomic then head.Itself else head.Named
code_head atomic kind.Raw = head.Itself
code_head atomic kind.None = head.Itself
code_head atomic kind.Auto = head.Itself
code_head atomic kind.Int = head.Itself
code_head atomic kind.Float = head.Itself
code_head atomic kind.Bool = head.Itself
code_head atomic kind.Numeric = head.Itself
code_head atomic kind.Str = head.Itself
code_head atomic kind.Label = head.Itself
code_head atomic kind.LeftBrace = head.CodeBlock
code_head atomic kind.LeftBracket = head.ContentBlock
code_head atomic kind.Dollar = head.Equation
code_head atomic kind.LeftParen = if atomic then head.Group else head.Parens
code_head atomic kind.Let = head.Let
code_head atomic kind.Set = head.Set
code_head atomic kind.Show = head.Show
code_head atomic kind.Context = head.Context
code_head atomic kind.If = head.If
code_head atomic kind.While = head.While
code_head atomic kind.For = head.For
code_head atomic kind.Import = head.Import
code_head atomic kind.Include = head.Include
code_head atomic kind.Break = head.Break
code_head atomic kind.Continue = head.Continue
code_head atomic kind.Return = head.Return
code_head atomic kind.Underscore = if atomic then head.Unexpected else head.Placeholder
code_head atomic _ = if atomic then head.Unexpected else head.Missing

-- an operator and its operand, which binds at least as tightly
unfoldable pub unary_expr : UnOp → Parser (Unit {0})
unary_expr op = node (λ _. becomes kind.Unary) (eat >> deeper (CodeExpr false (unary_precedence op)) tt)

-- the production for what a token begins
abbrev pub code_by : Bool → CodeHead → Parser (Unit {0})
code_by atomic (head.Unary op) = unary_expr op
code_by atomic head.StrayOperator = unexpected (codes "to use a unary operator here, wrap the entire expression in parentheses" ∷ [])
code_by atomic head.Itself = eat
code_by atomic head.Named = named
code_by atomic head.Placeholder = placeholder
code_by atomic head.CodeBlock = read_block block.Code
code_by atomic head.ContentBlock = read_block block.Content
code_by atomic head.Equation = equation
code_by atomic head.Group = group >> gives tt
code_by atomic head.Parens = parens
code_by atomic head.Let = let_binding
code_by atomic head.Set = set_rule
code_by atomic head.Show = show_rule
code_by atomic head.Context = contextual atomic
code_by atomic head.If = conditional
code_by atomic head.While = while_loop
code_by atomic head.For = for_loop
code_by atomic head.Import = module_import
code_by atomic head.Include = module_include
code_by atomic head.Break = jump kind.LoopBreak
code_by atomic head.Continue = jump kind.LoopContinue
code_by atomic head.Return = func_return
code_by atomic head.Unexpected = unexpected []
code_by atomic head.Missing = expected (codes "expression")

-- what an expression begins with
unfoldable pub code_primary : Bool → Parser (Unit {0})
code_primary atomic = do
  ahead ← peek
  code_by atomic (code_head atomic ahead.kind)

-- ---- what comes after it

-- a dot comes directly after an expression
abbrev pub dots_directly : SyntaxKind → Bool → Bool
dots_directly k has_trivia = same kind.Dot k && not has_trivia

-- an operator, if it binds at least so tightly; others are left to what is around
abbrev pub binary_tail : ℕ → Option BinOp → CodeTail
binary_tail least None = tail.Nothing
binary_tail least (Some op) = if nat_lt (binary_precedence op) least then tail.Nothing else tail.Binary op

-- what a token makes of an expression before it that isn't atomic
abbrev pub operator_tail : ℕ → SyntaxKind → CodeTail
operator_tail least k =
    if same kind.Dot k then tail.Field
    else (if same kind.Not k then (if nat_lt (binary_precedence binary.NotIn) least then tail.Nothing else tail.NotIn)
    else binary_tail least (binary_of k))

-- what a token makes of the expression before it: of an atomic one only directly after it
abbrev pub code_tail : Bool → ℕ → SyntaxKind → Bool → CodeTail
code_tail atomic least k has_trivia =
    if calls_directly k has_trivia then tail.Call
    else (if atomic then (if dots_directly k has_trivia then tail.DirectField else tail.Nothing)
    else operator_tail least k)

-- how tightly a right operand has to bind: as tightly as its operator if that is taken from the
-- right, else more tightly
abbrev pub operand_least : BinOp → ℕ
operand_least op = elim (assoc_of op) [ Left ↦ suc (binary_precedence op) | Right ↦ binary_precedence op ]

-- the token of an operator, and its right operand
unfoldable pub binary_expr : BinOp → Parser (Option Shape × Unit {0})
binary_expr op = do
  sign ← eat
  operand ← deeper (CodeExpr false (operand_least op)) tt
  gives (Some (becomes kind.Binary), tt)

-- `not`, which with `in` after it is an operator
unfoldable pub not_in : Parser (Option Shape × Unit {0})
not_in = do
  sign ← eat
  ahead ← peek
  pick (same kind.In ahead.kind) (binary_expr binary.NotIn) (expected (codes "keyword `in`") >> gives (None, tt))

-- a field access, if an identifier comes directly after the dot: else the dot doesn't belong to an
-- atomic expression
unfoldable pub direct_field : Parser (Option Shape × Unit {0})
direct_field = do
  after ← does further
  pick (same kind.Ident after) field (gives (None, tt))

-- the arguments of a call, which all goes into
unfoldable pub call_tail : Parser (Option Shape × Unit {0})
call_tail = arguments >> gives (Some (becomes kind.FuncCall), tt)

-- the production for what a token makes of the expression before it
abbrev pub tail_by : CodeTail → Parser (Option Shape × Unit {0})
tail_by tail.Call = call_tail
tail_by tail.Field = field
tail_by tail.DirectField = direct_field
tail_by tail.NotIn = not_in
tail_by (tail.Binary op) = binary_expr op
tail_by tail.Nothing = gives (None, tt)

-- one turn: what the current token makes of the expression before it
unfoldable pub code_tail_turn : Bool → ℕ → Unit {0} → Parser (Option Shape × Unit {0})
code_tail_turn atomic least x = do
  ahead ← peek
  tail_by (code_tail atomic least ahead.kind ahead.has_trivia)

-- an expression, atomic or not, of operators that bind at least so tightly
unfoldable pub code_expr : Bool → ℕ → Parser (Unit {0})
code_expr atomic least = grow (code_primary atomic) (code_tail_turn atomic least)
