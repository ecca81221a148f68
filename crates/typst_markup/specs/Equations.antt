-- Formulas between dollars, and sequences of their expressions.
use Rattle.std.specs.Prelude.{ℕ, Bool, true, false, ◌||◌, []}
use Rattle.typst_kinds.specs.Kinds.{among, same}
use Rattle.typst_kinds.specs.Sets.{math_expr}
use Rattle.typst_kinds.specs.declared.kind.SyntaxKind.{SyntaxKind}
use Rattle.typst_kinds.specs.declared.kind.SyntaxKind.TheVariants as kind
use Rattle.typst_kinds.specs.declared.mode.SyntaxMode.TheVariants as mode
use Rattle.typst_language.specs.Calls.Call.{MathExpr}
use Rattle.typst_language.specs.declared.calls.ChainSet.{ChainSet}
use Rattle.typst_language.specs.declared.reading.AtNewline.TheVariants as newline
use Rattle.typst_language.specs.declared.reading.Reading.{Reading}
use Rattle.typst_language.specs.Shape.{becomes, encloses}
use Rattle.typst_language.specs.Syntax.{Parser, ◌>>=◌, ◌>>◌}
use Rattle.typst_language.specs.Syntax.Op.{is_deepest}
use Rattle.typst_language.specs.Syntax.Parser.{gives, does, pick, repeat}
use Rattle.typst_language.specs.Steps.{peek, eat, close_if, unexpected, within, node}
use Rattle.typst_language.specs.Depth.{is_end, one_more, too_deep, deeper}

-- ---- where sequences stop

-- a formula stops at a dollar
abbrev pub ends_equation : SyntaxKind → Bool
ends_equation k = same kind.Dollar k || is_end k

-- a delimiter that closes, of any kind
abbrev pub is_closer : SyntaxKind → Bool
is_closer k = same kind.RightBrace k || same kind.RightParen k

-- what is delimited also stops at a delimiter that closes, of any kind
abbrev pub ends_delimited : SyntaxKind → Bool
ends_delimited k = is_closer k || ends_equation k

-- a list of arguments stops at a paren
abbrev pub ends_list : SyntaxKind → Bool
ends_list k = same kind.RightParen k || ends_equation k

-- what is between two arguments
abbrev pub separates : SyntaxKind → Bool
separates k = same kind.Comma k || same kind.Semicolon k

-- an argument also stops at what is between two arguments
abbrev pub ends_argument : SyntaxKind → Bool
ends_argument k = separates k || ends_list k

-- ---- sequences

-- no signs of attachments
abbrev pub no_signs : ChainSet
no_signs = record { hat = false; underscore = false }

-- an expression with all its operators
unfoldable pub math_expression : Parser (Unit {0})
math_expression = deeper (MathExpr 0 no_signs) tt

-- an expression; a token that begins none is unexpected
unfoldable pub math_item : Parser (Unit {0})
math_item = do
  ahead ← peek
  pick (among math_expr ahead.kind) math_expression (unexpected [])

-- one more expression, unless a stop comes; answers how many there are
unfoldable pub math_turn : (SyntaxKind → Bool) → ℕ → Parser (Bool × ℕ)
math_turn stops count = do
  ahead ← peek
  pick (stops ahead.kind) (gives (false, count)) (math_item >> gives (true, one_more count))

-- expressions up to a stop; answers how many there are, of which what is too deep is one
unfoldable pub math_exprs : (SyntaxKind → Bool) → Parser ℕ
math_exprs stops = do
  is_deep ← does is_deepest
  pick is_deep (too_deep stops >> gives 1) (repeat (math_turn stops) 0)

-- the expressions of a formula as one node
unfoldable pub math : Parser (Unit {0})
math = node (λ _. becomes kind.Math) (math_exprs ends_equation >> gives tt)

-- ---- formulas

-- how a formula is read: newlines don't end it
abbrev pub math_reading : Reading
math_reading = record { mode = mode.Math; at_newline = newline.Continue }

-- `$ .. $`, read as a formula whatever is around it; answers whether the second dollar came, after
-- which the token is asked for as it is read around the formula
unfoldable pub between_dollars : Parser Bool
between_dollars = within (λ _. math_reading) (do
  dollar ← eat
  body ← math
  close_if (same kind.Dollar))

-- `$ .. $` as one node
unfoldable pub equation : Parser (Unit {0})
equation = do
  closed ← node (encloses kind.Equation) between_dollars
  gives tt
