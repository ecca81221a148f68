-- Sequences of code, and code blocks.
use Rattle.std.specs.Prelude.{Bool, true, false, ◌||◌, [], codes}
use Rattle.typst_kinds.specs.Kinds.{same}
use Rattle.typst_kinds.specs.declared.kind.SyntaxKind.{SyntaxKind}
use Rattle.typst_kinds.specs.declared.kind.SyntaxKind.TheVariants as kind
use Rattle.typst_kinds.specs.declared.mode.SyntaxMode.TheVariants as mode
use Rattle.typst_language.specs.declared.reading.AtNewline.TheVariants as newline
use Rattle.typst_language.specs.declared.reading.Reading.{Reading}
use Rattle.typst_language.specs.Shape.{becomes, encloses}
use Rattle.typst_language.specs.Syntax.{Parser, ◌>>=◌, ◌>>◌}
use Rattle.typst_language.specs.Syntax.Op.{advises, is_deepest}
use Rattle.typst_language.specs.Syntax.Parser.{gives, does, pick, repeat, scoped}
use Rattle.typst_language.specs.Steps.{peek, eat, close_if, unexpected, expected, within, node}
use Rattle.typst_language.specs.Depth.{is_end, too_deep}
use Rattle.typst_markup.specs.Markup.{at_newline}
use Rattle.typst_markup.specs.Starts.{begins_code}
use Rattle.typst_bindings.specs.Parts.{code_expression}

-- a code block ends at any closing delimiter, or at the end
abbrev pub ends_code : SyntaxKind → Bool
ends_code k = same kind.RightBrace k || same kind.RightBracket k || same kind.RightParen k || is_end k

-- says that a statement doesn't end; at a label, which only markup has, with hints
unfoldable pub missing_break : Parser (Unit {0})
missing_break = do
  said ← expected (codes "semicolon or line break")
  ahead ← peek
  pick (same kind.Label ahead.kind) (do
    hint ← does (advises (codes "labels can only be applied in markup mode"))
    does (advises (codes "try wrapping your code in a markup block (`[ ]`)")))
      (gives tt)

-- the end of a statement: a semicolon, unless the sequence stops there
unfoldable pub statement_end : (SyntaxKind → Bool) → Parser (Unit {0})
statement_end stops = do
  ahead ← peek
  pick (stops ahead.kind) (gives tt) (pick (same kind.Semicolon ahead.kind) eat missing_break)

-- an expression up to where its statement ends
unfoldable pub statement : (SyntaxKind → Bool) → Parser (Unit {0})
statement stops = do
  ahead ← peek
  pick (begins_code ahead.kind) (code_expression >> statement_end stops) (unexpected [])

-- a statement, unless a stop comes; it goes on after a newline only at `else` or a dot
unfoldable pub code_turn : (SyntaxKind → Bool) → Unit {0} → Parser (Bool × Unit {0})
code_turn stops x = do
  ahead ← peek
  pick (stops ahead.kind) (gives (false, tt)) (do
    read ← within (at_newline newline.ContextualContinue) (statement stops)
    gives (true, tt))

-- statements up to a stop
unfoldable pub code_exprs : (SyntaxKind → Bool) → Parser (Unit {0})
code_exprs stops = do
  is_deep ← does is_deepest
  pick is_deep (too_deep stops) (repeat (code_turn stops) tt)

-- statements as one node
unfoldable pub code : (SyntaxKind → Bool) → Parser (Unit {0})
code stops = node (λ _. becomes kind.Code) (code_exprs stops)

-- how a code block is read, whatever is around it
abbrev pub code_reading : Reading
code_reading = record { mode = mode.Code; at_newline = newline.Continue }

-- `{ .. }`: after the second brace the next token is asked for as it is read around the block
unfoldable pub code_block : Parser (Unit {0})
code_block = do
  closed ← node (encloses kind.CodeBlock) (scoped (λ _. code_reading) (do
    brace ← eat
    inside ← code ends_code
    close_if (same kind.RightBrace)))
  gives tt
