-- Steps that answer whether what was expected was there.
use Rattle.std.specs.Prelude.{ℕ, Bool, true, false, List, codes}
use Rattle.typst_kinds.specs.declared.kind.SyntaxKind.{SyntaxKind}
use Rattle.typst_kinds.specs.declared.kind.SyntaxKind.TheVariants as kind
use Rattle.typst_kinds.specs.Kinds.{is_keyword, same}
use Rattle.typst_language.specs.Shape.{Seen}
use Rattle.typst_language.specs.Shape.NodeChange.{stays}
use Rattle.typst_language.specs.Shape.Making.{wanted}
use Rattle.typst_language.specs.Shape.Shape.{keeps}
use Rattle.typst_language.specs.Syntax.{Parser, ◌>>=◌, ◌>>◌}
use Rattle.typst_language.specs.Syntax.Begin.{at_token}
use Rattle.typst_language.specs.Syntax.Parser.{gives, pick, wraps}
use Rattle.typst_language.specs.Steps.{peek, eat_making, expect}

-- takes the token if the test holds, or says that it was expected; answers whether it took it
unfoldable pub expects : (SyntaxKind → Bool) → List ℕ → Parser Bool
expects is thing = do
  ahead ← peek
  first ← expect is thing
  gives (is ahead.kind)

-- takes an identifier, or says that it was expected; answers whether it took it. A keyword in its
-- place becomes the error that an identifier was expected
unfoldable pub expect_identifier : Parser Bool
expect_identifier = do
  ahead ← peek
  pick (is_keyword ahead.kind) (eat_making true (wanted (codes "identifier")) >> gives false) (expects (same kind.Ident) (codes "identifier"))

-- what the parser gives, and with its answer what is seen of the nodes that it gave, from the
-- current token on
unfoldable pub seeing : {A : Type 0} → Parser A → Parser (A × List Seen)
seeing p = do
  ahead ← peek
  wraps (λ _. keeps stays) at_token p
