-- `let`.
use Rattle.std.specs.Prelude.{Bool, not, ◌&&◌, [], codes}
use Rattle.typst_kinds.specs.Kinds.{same}
use Rattle.typst_kinds.specs.declared.kind.SyntaxKind.{SyntaxKind}
use Rattle.typst_kinds.specs.declared.kind.SyntaxKind.TheVariants as kind
use Rattle.typst_language.specs.declared.calls.Role.TheVariants as role
use Rattle.typst_language.specs.Shape.{Shape, becomes}
use Rattle.typst_language.specs.Shape.NodeChange.{stays}
use Rattle.typst_language.specs.Shape.Shape.{keeps}
use Rattle.typst_language.specs.Syntax.{Parser, ◌>>=◌, ◌>>◌}
use Rattle.typst_language.specs.Syntax.Parser.{gives, pick}
use Rattle.typst_language.specs.Steps.{peek, eat, eat_if, node}
use Rattle.typst_language.specs.Expected.{expects}
use Rattle.typst_bindings.specs.declared.bindings.Bound.{Bound}
use Rattle.typst_bindings.specs.declared.bindings.Bound.TheVariants as bound
use Rattle.typst_bindings.specs.Parts.{expression_if}
use Rattle.typst_bindings.specs.Patterns.{deeper_pattern}
use Rattle.typst_bindings.specs.Params.{params}

-- parameters begin directly after the name
abbrev pub opens_params : SyntaxKind → Bool → Bool
opens_params k has_trivia = same kind.LeftParen k && not has_trivia

-- a name, and parameters if they begin directly after it
unfoldable pub bound_name : Parser Bound
bound_name = do
  name ← eat
  ahead ← peek
  pick (opens_params ahead.kind ahead.has_trivia) (params >> gives bound.Function) (gives bound.Name)

-- what is bound: a name, a function, or the names of a pattern
unfoldable pub bound_part : Parser Bound
bound_part = do
  ahead ← peek
  pick (same kind.Ident ahead.kind) bound_name (deeper_pattern role.Binding [] >> gives bound.Names)

-- the equals sign, which only after a name alone may be missing; answers whether it came
abbrev pub equals : Bound → Parser Bool
equals bound.Name = eat_if (same kind.Eq)
equals bound.Function = expects (same kind.Eq) (codes "equals sign")
equals bound.Names = expects (same kind.Eq) (codes "equals sign")

-- what is bound as a node: a function is a closure with a name
abbrev pub bound_shape : Bound → Shape
bound_shape bound.Name = keeps stays
bound_shape bound.Function = becomes kind.Closure
bound_shape bound.Names = keeps stays

-- what is bound, and its value
unfoldable pub binding : Parser (Unit {0})
binding = do
  x ← node bound_shape (do
    which ← bound_part
    comes ← equals which
    value ← expression_if comes
    gives which)
  gives tt

-- `let .. = ..`
unfoldable pub let_binding : Parser (Unit {0})
let_binding = node (λ _. becomes kind.LetBinding) (eat >> binding)
