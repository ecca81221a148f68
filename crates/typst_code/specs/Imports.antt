-- Imports.
use Rattle.std.specs.Prelude.{Bool, true, false, if◌then◌else◌, [], codes}
use Rattle.typst_kinds.specs.Kinds.{same, is_terminator}
use Rattle.typst_kinds.specs.declared.kind.SyntaxKind.TheVariants as kind
use Rattle.typst_language.specs.declared.reading.AtNewline.TheVariants as newline
use Rattle.typst_language.specs.Shape.{Shape, becomes}
use Rattle.typst_language.specs.Shape.NodeChange.{stays, turns_wrong}
use Rattle.typst_language.specs.Shape.Shape.{keeps}
use Rattle.typst_language.specs.Syntax.{Parser, ◌>>=◌, ◌>>◌}
use Rattle.typst_language.specs.Syntax.Parser.{gives, pick, repeat}
use Rattle.typst_language.specs.Steps.{peek, eat, eat_if, unexpected, within, node}
use Rattle.typst_language.specs.Expected.{expect_identifier}
use Rattle.typst_markup.specs.Markup.{at_newline}
use Rattle.typst_bindings.specs.Parts.{code_expression, separator}

-- a dot and a name, if they come
unfoldable pub path_turn : Unit {0} → Parser (Bool × Unit {0})
path_turn x = do
  dot ← eat_if (same kind.Dot)
  name ← pick dot expect_identifier (gives false)
  gives (dot, tt)

-- a name; any other token is unexpected
unfoldable pub import_name : Parser (Unit {0})
import_name = do
  ahead ← peek
  pick (same kind.Ident ahead.kind) eat (unexpected [])

-- a path: a name, and names after dots
unfoldable pub import_path : Parser (Unit {0})
import_path = node (λ _. becomes kind.ImportItemPath) (import_name >> repeat path_turn tt)

-- `as` and a name; answers whether they came
unfoldable pub renaming : Parser Bool
renaming = do
  renamed ← eat_if (same kind.As)
  name ← pick renamed expect_identifier (gives false)
  gives renamed

-- an item that is renamed becomes one node
abbrev pub import_shape : Bool → Shape
import_shape renamed = if renamed then becomes kind.RenamedImportItem else keeps stays

-- one item, and what separates it from the next, unless the items end
unfoldable pub import_turn : Unit {0} → Parser (Bool × Unit {0})
import_turn x = do
  ahead ← peek
  pick (is_terminator ahead.kind) (gives (false, tt)) (do
    renamed ← node import_shape (import_path >> renaming)
    comma ← separator
    gives (true, tt))

-- the items that are imported
unfoldable pub import_items : Parser (Unit {0})
import_items = node (λ _. becomes kind.ImportItems) (repeat import_turn tt)

-- the first paren becomes an error if the second is missing
abbrev pub parens_shape : Bool → Shape
parens_shape closed = keeps (if closed then stays else turns_wrong (codes "unclosed delimiter"))

-- `( .. )` around the items that are imported
unfoldable pub import_parens : Parser (Unit {0})
import_parens = do
  closed ← node parens_shape (within (at_newline newline.Continue) (do
    paren ← eat
    items ← import_items
    eat_if (same kind.RightParen)))
  gives tt

-- what comes after the colon: items, in parens or not, or a star
unfoldable pub imported : Parser (Unit {0})
imported = do
  ahead ← peek
  pick (same kind.LeftParen ahead.kind) import_parens (pick (same kind.Star ahead.kind) eat import_items)

-- what comes after the colon, if it came
abbrev pub imported_if : Bool → Parser (Unit {0})
imported_if colon = pick colon imported (gives tt)

-- `import .. as name: ..`
unfoldable pub module_import : Parser (Unit {0})
module_import = node (λ _. becomes kind.ModuleImport) (do
  keyword ← eat
  source ← code_expression
  renamed ← renaming
  colon ← eat_if (same kind.Colon)
  imported_if colon)
