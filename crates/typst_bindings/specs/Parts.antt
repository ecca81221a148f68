-- What patterns have in common with the rest of code.
use Rattle.std.specs.Prelude.{Bool, true, false, codes}
use Rattle.typst_kinds.specs.Kinds.{same, is_terminator}
use Rattle.typst_kinds.specs.declared.kind.SyntaxKind.TheVariants as kind
use Rattle.typst_language.specs.Calls.Call.{CodeExpr}
use Rattle.typst_language.specs.declared.reading.AtNewline.TheVariants.{Continue}
use Rattle.typst_language.specs.declared.reading.Reading.{Reading}
use Rattle.typst_language.specs.Syntax.{Parser, ◌>>=◌}
use Rattle.typst_language.specs.Syntax.Parser.{gives, pick}
use Rattle.typst_language.specs.Steps.{peek}
use Rattle.typst_language.specs.Depth.{deeper}
use Rattle.typst_language.specs.Expected.{expects}

-- an expression with all operators, one level deeper
abbrev pub code_expression : Parser (Unit {0})
code_expression = deeper (CodeExpr false 0) tt

-- an expression without operators, one level deeper
abbrev pub atomic_expression : Parser (Unit {0})
atomic_expression = deeper (CodeExpr true 0) tt

-- an expression, if something was taken that asks for one
abbrev pub expression_if : Bool → Parser (Unit {0})
expression_if asked = pick asked code_expression (gives tt)

-- a comma between two items, unless the list ends; answers whether one came
unfoldable pub separator : Parser Bool
separator = do
  ahead ← peek
  pick (is_terminator ahead.kind) (gives false) (expects (same kind.Comma) (codes "comma"))

-- how what is in parens is read: no newline stops
abbrev pub in_parens : Reading → Reading
in_parens r = record r { at_newline = Continue }
