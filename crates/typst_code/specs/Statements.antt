-- Statements, and what else a keyword begins.
use Rattle.std.specs.Prelude.{ℕ, Bool, true, false, not, if◌then◌else◌, List, [], ◌∷◌, Option, Some, None, codes}
use Rattle.typst_kinds.specs.Kinds.{same, among}
use Rattle.typst_kinds.specs.Sets as set
use Rattle.typst_kinds.specs.declared.kind.SyntaxKind.{SyntaxKind}
use Rattle.typst_kinds.specs.declared.kind.SyntaxKind.TheVariants as kind
use Rattle.typst_language.specs.declared.calls.Block.TheVariants as block
use Rattle.typst_language.specs.Calls.Call.{CodeExpr}
use Rattle.typst_language.specs.declared.calls.Role.TheVariants as role
use Rattle.typst_language.specs.Shape.{Shape, becomes}
use Rattle.typst_language.specs.Shape.Making.{surprise}
use Rattle.typst_language.specs.Shape.Shape.{lacks}
use Rattle.typst_language.specs.Syntax.{Parser, ◌>>=◌, ◌>>◌}
use Rattle.typst_language.specs.Syntax.Parser.{gives, pick}
use Rattle.typst_language.specs.Steps.{peek, eat, eat_if, eat_making, expect, expected, node, grow, nest, read_block}
use Rattle.typst_language.specs.Depth.{deeper}
use Rattle.typst_language.specs.Expected.{expect_identifier}
use Rattle.typst_markup.specs.Starts.{begins_code}
use Rattle.typst_code.specs.Arguments.{arguments}
use Rattle.typst_bindings.specs.Parts.{code_expression, expression_if}
use Rattle.typst_bindings.specs.Patterns.{deeper_pattern}

-- `{ .. }` or `[ .. ]`
unfoldable pub any_block : Parser (Unit {0})
any_block = do
  ahead ← peek
  pick (same kind.LeftBracket ahead.kind) (read_block block.Content)
      (pick (same kind.LeftBrace ahead.kind) (read_block block.Code) (expected (codes "block")))

-- a dot and a name, which take what is to their left into a field access
unfoldable pub field : Parser (Option Shape × Unit {0})
field = do
  dot ← eat
  name ← expect_identifier
  gives (Some (becomes kind.FieldAccess), tt)

-- a dot and a name, if a dot comes
unfoldable pub target_turn : Unit {0} → Parser (Option Shape × Unit {0})
target_turn x = do
  ahead ← peek
  pick (same kind.Dot ahead.kind) field (gives (None, tt))

-- a name, and names after dots
unfoldable pub target : Parser (Unit {0})
target = grow (expect_identifier >> gives tt) target_turn

-- `set text(..)`, and `if` with a condition after it
unfoldable pub set_rule : Parser (Unit {0})
set_rule = node (λ _. becomes kind.SetRule) (do
  keyword ← eat
  name ← target
  given ← arguments
  conditional ← eat_if (same kind.If)
  expression_if conditional)

-- `show .. : ..`: without a colon an empty error comes after the keyword
abbrev pub show_shape : Bool → Shape
show_shape colon = if colon then becomes kind.ShowRule else lacks 1 (codes "expected colon") kind.ShowRule

-- `show .. : ..`: what is shown may be missing, the colon may not
unfoldable pub show_rule : Parser (Unit {0})
show_rule = do
  colon ← node show_shape (do
    keyword ← eat
    ahead ← peek
    shown ← expression_if (not (same kind.Colon ahead.kind))
    colon ← eat_if (same kind.Colon)
    transform ← expression_if colon
    gives colon)
  gives tt

-- `context ..`
unfoldable pub contextual : Bool → Parser (Unit {0})
contextual atomic = node (λ _. becomes kind.Contextual) (eat >> deeper (CodeExpr atomic 0) tt)

-- what comes after `else`, unless it is another `if`; answers whether that comes
unfoldable pub other_branch : Parser (Bool × Unit {0})
other_branch = do
  ahead ← peek
  pick (same kind.If ahead.kind) (gives (true, tt)) (any_block >> gives (false, tt))

-- `if .. { .. }`, with an `else` after it; answers whether another `if` comes after that
unfoldable pub conditional_turn : Unit {0} → Parser (Bool × Unit {0})
conditional_turn x = do
  keyword ← eat
  condition ← code_expression
  body ← any_block
  other ← eat_if (same kind.Else)
  pick other other_branch (gives (false, tt))

-- `if .. { .. } else if .. { .. } else { .. }`, each within the one before it
unfoldable pub conditional : Parser (Unit {0})
conditional = nest (λ _. becomes kind.Conditional) conditional_turn tt

-- `while .. { .. }`
unfoldable pub while_loop : Parser (Unit {0})
while_loop = node (λ _. becomes kind.WhileLoop) (eat >> code_expression >> any_block)

-- a token that begins a pattern
abbrev pub begins_pattern : SyntaxKind → Bool
begins_pattern k = among set.pattern k

-- a comma and a second pattern, which would have to be in parens with the first
unfoldable pub second_pattern : List (List ℕ) → Parser (Unit {0})
second_pattern names = do
  comma ← eat_making false (surprise (codes "destructuring patterns must be wrapped in parentheses" ∷ []))
  ahead ← peek
  pick (begins_pattern ahead.kind) (deeper_pattern role.Binding names >> gives tt) (gives tt)

-- the names of a loop
unfoldable pub loop_names : Parser (Unit {0})
loop_names = do
  names ← deeper_pattern role.Binding []
  ahead ← peek
  pick (same kind.Comma ahead.kind) (second_pattern names) (gives tt)

-- `for .. in .. { .. }`
unfoldable pub for_loop : Parser (Unit {0})
for_loop = node (λ _. becomes kind.ForLoop) (eat >> loop_names >> expect (same kind.In) (codes "keyword `in`") >> code_expression >> any_block)

-- `include ..`
unfoldable pub module_include : Parser (Unit {0})
module_include = node (λ _. becomes kind.ModuleInclude) (eat >> code_expression)

-- `break`, `continue`
unfoldable pub jump : SyntaxKind → Parser (Unit {0})
jump k = node (λ _. becomes k) eat

-- `return`, with an expression if one comes
unfoldable pub func_return : Parser (Unit {0})
func_return = node (λ _. becomes kind.FuncReturn) (do
  keyword ← eat
  ahead ← peek
  expression_if (begins_code ahead.kind))
