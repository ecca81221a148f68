-- The named sets of kinds.
use Rattle.std.specs.Prelude.{List, [], ◌∷◌, ◌++◌}
use Rattle.typst_kinds.specs.declared.kind.SyntaxKind.{SyntaxKind}
use Rattle.typst_kinds.specs.declared.kind.SyntaxKind.TheVariants as kind

-- kinds that begin a statement of code
abbrev pub stmt : List SyntaxKind
stmt = kind.Let ∷ kind.Set ∷ kind.Show ∷ kind.Import ∷ kind.Include ∷ kind.Return ∷ []

-- kinds that begin an expression of math
abbrev pub math_expr : List SyntaxKind
math_expr = kind.Hash ∷ kind.MathIdent ∷ kind.MathFieldAccess ∷ kind.LeftBrace ∷ kind.LeftParen ∷ kind.RightBrace ∷ kind.RightParen ∷ kind.Dot ∷ kind.Bang ∷ kind.Comma ∷ kind.Semicolon ∷ kind.MathText ∷ kind.Linebreak ∷ kind.MathAlignPoint ∷ kind.MathShorthand ∷ kind.MathPrimes ∷ kind.Escape ∷ kind.Str ∷ kind.Root ∷ []

-- kinds of unary operators
abbrev pub unary_op : List SyntaxKind
unary_op = kind.Plus ∷ kind.Minus ∷ kind.Not ∷ []

-- kinds of binary operators, except the word pair `not in`
abbrev pub binary_op : List SyntaxKind
binary_op = kind.Plus ∷ kind.Minus ∷ kind.Star ∷ kind.Slash ∷ kind.And ∷ kind.Or ∷ kind.EqEq ∷ kind.ExclEq ∷ kind.Lt ∷ kind.LtEq ∷ kind.Gt ∷ kind.GtEq ∷ kind.Eq ∷ kind.In ∷ kind.PlusEq ∷ kind.HyphEq ∷ kind.StarEq ∷ kind.SlashEq ∷ []

-- kinds that begin a part of a pattern that isn't a pattern in parens
abbrev pub pattern_leaf : List SyntaxKind
pattern_leaf = kind.Ident ∷ kind.LeftBrace ∷ kind.LeftBracket ∷ kind.LeftParen ∷ kind.Dollar ∷ kind.Let ∷ kind.Set ∷ kind.Show ∷ kind.Context ∷ kind.If ∷ kind.While ∷ kind.For ∷ kind.Import ∷ kind.Include ∷ kind.Break ∷ kind.Continue ∷ kind.Return ∷ kind.Raw ∷ kind.None ∷ kind.Auto ∷ kind.Int ∷ kind.Float ∷ kind.Bool ∷ kind.Numeric ∷ kind.Str ∷ kind.Label ∷ []

-- kinds that begin an expression of code
abbrev pub code_expr : List SyntaxKind
code_expr = kind.Underscore ∷ (pattern_leaf ++ unary_op)

-- kinds that begin a pattern
abbrev pub pattern : List SyntaxKind
pattern = kind.Underscore ∷ pattern_leaf

-- kinds that begin an argument of a call
abbrev pub arg : List SyntaxKind
arg = kind.Dots ∷ code_expr

-- kinds that begin an item of an array or a dictionary
abbrev pub array_or_dict_item : List SyntaxKind
array_or_dict_item = kind.Dots ∷ code_expr

-- kinds that begin a parameter of a closure
abbrev pub param : List SyntaxKind
param = kind.Dots ∷ pattern

-- kinds that begin an item of a destructuring pattern
abbrev pub destructuring_item : List SyntaxKind
destructuring_item = kind.Dots ∷ pattern
