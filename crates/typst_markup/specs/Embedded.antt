-- Code that is embedded in text by a hash.
use Rattle.std.specs.Prelude.{Bool, true, not, ◌||◌, ◌&&◌, codes}
use Rattle.typst_kinds.specs.Kinds.{same}
use Rattle.typst_kinds.specs.declared.kind.SyntaxKind.{SyntaxKind}
use Rattle.typst_kinds.specs.declared.kind.SyntaxKind.TheVariants as kind
use Rattle.typst_kinds.specs.declared.mode.SyntaxMode.TheVariants as mode
use Rattle.typst_language.specs.Calls.Call.{CodeExpr}
use Rattle.typst_language.specs.declared.reading.AtNewline.TheVariants as newline
use Rattle.typst_language.specs.declared.reading.Reading.{Reading}
use Rattle.typst_language.specs.Syntax.{Parser, ◌>>=◌, ◌>>◌}
use Rattle.typst_language.specs.Syntax.Parser.{gives, pick}
use Rattle.typst_language.specs.Steps.{peek, eat, expected, within}
use Rattle.typst_language.specs.Depth.{is_end, deeper}
use Rattle.typst_markup.specs.Starts.{begins_statement}

-- how embedded code is read: it ends with its line
abbrev pub embedded_reading : Reading
embedded_reading = record { mode = mode.Code; at_newline = newline.Stop }

-- whether a semicolon belongs to the code: to a statement wherever it comes, to another expression
-- only directly after it
abbrev pub takes_semicolon : Bool → SyntaxKind → Bool → Bool
takes_semicolon is_statement k has_trivia = same kind.Semicolon k && (is_statement || not has_trivia)

-- whether something follows a statement on its line that may not: anything but a bracket or the end
abbrev pub is_followed : Bool → SyntaxKind → Bool
is_followed is_statement k = is_statement && not (same kind.RightBracket k || is_end k)

-- the end of an expression or of a statement
unfoldable pub embedded_end : Bool → Parser (Unit {0})
embedded_end is_statement = do
  ahead ← peek
  pick (takes_semicolon is_statement ahead.kind ahead.has_trivia) eat
      (pick (is_followed is_statement ahead.kind) (expected (codes "semicolon or line break")) (gives tt))

-- there is nothing directly after a hash: trivia or the end comes
abbrev pub is_bare : SyntaxKind → Bool → Bool
is_bare k has_trivia = has_trivia || is_end k

-- what comes after a hash: an atomic expression
unfoldable pub embedded_expr : Parser (Unit {0})
embedded_expr = do
  ahead ← peek
  pick (is_bare ahead.kind ahead.has_trivia) (expected (codes "expression")) (do
    read ← deeper (CodeExpr true 0) tt
    embedded_end (begins_statement ahead.kind))

-- a hash and an expression of code
unfoldable pub embedded : Parser (Unit {0})
embedded = within (λ _. embedded_reading) (eat >> embedded_expr)
