-- Closures, and underscores.
use Rattle.std.specs.Prelude.{if◌then◌else◌, codes}
use Rattle.typst_kinds.specs.Kinds.{same}
use Rattle.typst_kinds.specs.declared.kind.SyntaxKind.{SyntaxKind}
use Rattle.typst_kinds.specs.declared.kind.SyntaxKind.TheVariants as kind
use Rattle.typst_language.specs.Shape.{Shape, becomes}
use Rattle.typst_language.specs.Shape.NodeChange.{stays, is_not}
use Rattle.typst_language.specs.Shape.Shape.{keeps}
use Rattle.typst_language.specs.Syntax.{Parser, ◌>>=◌, ◌>>◌}
use Rattle.typst_language.specs.Syntax.Parser.{gives}
use Rattle.typst_language.specs.Steps.{peek, eat, node}
use Rattle.typst_language.specs.declared.calls.AfterName.{AfterName}
use Rattle.typst_language.specs.declared.calls.AfterName.TheVariants as after
use Rattle.typst_bindings.specs.Parts.{code_expression}

-- what comes after a name: only an arrow counts; `=` is an operator there
abbrev pub after_name : SyntaxKind → AfterName
after_name k = if same kind.Arrow k then after.Arrow else after.Nothing

-- what comes after an underscore: an arrow or an equals sign counts
abbrev pub after_underscore : SyntaxKind → AfterName
after_underscore k = if same kind.Arrow k then after.Arrow else (if same kind.Eq k then after.Eq else after.Nothing)

-- a name before an arrow is the only parameter
abbrev pub name_shape : AfterName → Shape
name_shape after.Arrow = becomes kind.Params
name_shape after.Eq = keeps stays
name_shape after.Nothing = keeps stays

-- an underscore before an arrow is the only parameter; alone it isn't an expression
abbrev pub underscore_shape : AfterName → Shape
underscore_shape after.Arrow = becomes kind.Params
underscore_shape after.Eq = keeps stays
underscore_shape after.Nothing = keeps (is_not (codes "expression"))

-- what a name, an underscore or parens become with what comes after them
abbrev pub closure_shape : AfterName → Shape
closure_shape after.Arrow = becomes kind.Closure
closure_shape after.Eq = becomes kind.DestructAssignment
closure_shape after.Nothing = keeps stays

-- the arrow or the equals sign, and an expression
abbrev pub right_side : AfterName → Parser (Unit {0})
right_side after.Arrow = eat >> code_expression
right_side after.Eq = eat >> code_expression
right_side after.Nothing = gives tt

-- one token, and the arrow or equals sign that may come after it
abbrev pub headed : (SyntaxKind → AfterName) → (AfterName → Shape) → Parser (Unit {0})
headed what shape = do
  x ← node closure_shape (do
    follows ← node shape (do
      head ← eat
      ahead ← peek
      gives (what ahead.kind))
    rest ← right_side follows
    gives follows)
  gives tt

-- a name, or a closure of one parameter
unfoldable pub named : Parser (Unit {0})
named = headed after_name name_shape

-- an underscore: the parameter of a closure, or what is assigned to
unfoldable pub placeholder : Parser (Unit {0})
placeholder = headed after_underscore underscore_shape
