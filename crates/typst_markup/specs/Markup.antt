-- The productions of markup.
use Rattle.std.specs.Prelude.{ℕ, ◌-◌, Bool, true, false, not, ◌||◌, ◌&&◌, if◌then◌else◌, ◌==◌, List, [], ◌∷◌, codes}
use Rattle.typst_kinds.specs.Kinds.{same}
use Rattle.typst_kinds.specs.declared.kind.SyntaxKind.{SyntaxKind}
use Rattle.typst_kinds.specs.declared.kind.SyntaxKind.TheVariants as kind
use Rattle.typst_language.specs.declared.reading.AtNewline.{AtNewline}
use Rattle.typst_language.specs.declared.reading.AtNewline.TheVariants as newline
use Rattle.typst_kinds.specs.declared.mode.SyntaxMode.TheVariants as mode
use Rattle.typst_language.specs.declared.calls.Block.TheVariants as block
use Rattle.typst_language.specs.Calls.Call.{MarkupExpr}
use Rattle.typst_language.specs.declared.calls.Mark.TheVariants as mark
use Rattle.typst_language.specs.declared.reading.Reading.{Reading}
use Rattle.typst_language.specs.Hand.{AtHand}
use Rattle.typst_language.specs.Point.{is_nil}
use Rattle.typst_language.specs.Shape.{Shape, becomes, encloses}
use Rattle.typst_language.specs.Shape.Making.{itself}
use Rattle.typst_language.specs.Shape.Shape.{warns}
use Rattle.typst_language.specs.Syntax.{Parser, ◌>>=◌, ◌>>◌}
use Rattle.typst_language.specs.Syntax.Op.{column, takes, marks, is_deepest}
use Rattle.typst_language.specs.Syntax.Parser.{gives, does, pick, repeat, scoped}
use Rattle.typst_language.specs.Steps.{peek, eat, convert_and_eat, eat_if, close_if, unexpected, expect, within, node, node_with_trivia, note, read_block}
use Rattle.typst_language.specs.Depth.{is_end, one_more, too_deep, deeper}
use Rattle.typst_markup.specs.declared.head.MarkupHead.{MarkupHead}
use Rattle.typst_markup.specs.declared.head.MarkupHead.TheVariants as head
use Rattle.typst_markup.specs.Embedded.{embedded}
use Rattle.typst_markup.specs.Equations.{equation}

-- ---- where sequences stop

-- a content block and an item stop at a bracket
abbrev pub ends_block : SyntaxKind → Bool
ends_block k = same kind.RightBracket k || is_end k

-- a term also at a colon
abbrev pub ends_term : SyntaxKind → Bool
ends_term k = same kind.Colon k || ends_block k

-- a heading also at a label
abbrev pub ends_heading : SyntaxKind → Bool
ends_heading k = same kind.Label k || ends_block k

-- what is between stars also stops at a star
abbrev pub ends_strong : SyntaxKind → Bool
ends_strong k = same kind.Star k || ends_block k

-- what is between underscores also stops at an underscore
abbrev pub ends_emph : SyntaxKind → Bool
ends_emph k = same kind.Underscore k || ends_block k

-- ---- sequences

-- a sequence ends at a stop, but not at a bracket that closes one of its own
abbrev pub ends : (SyntaxKind → Bool) → ℕ → SyntaxKind → Bool
ends stops nesting k = if same kind.RightBracket k then stops k && nesting == 0 else stops k

-- the note of a piece, if the sequence is a run
unfoldable pub note_piece : Bool → Bool → ℕ → Parser (Unit {0})
note_piece is_run at_start nesting = pick is_run (note (mark.Piece at_start nesting)) (gives tt)

-- one expression, unless a stop comes; answers whether a newline was passed after it, and how many
-- brackets are open then
unfoldable pub markup_turn : Bool → (SyntaxKind → Bool) → Bool × ℕ → Parser (Bool × (Bool × ℕ))
markup_turn is_run stops x = do
  ahead ← peek
  pick (ends stops x.1 ahead.kind) (gives (false, x)) (do
    nesting ← deeper (MarkupExpr x.0 x.1) x.1
    after ← peek
    noted ← note_piece is_run after.newlines.any nesting
    gives (true, (after.newlines.any, nesting)))

-- expressions, up to a stop
unfoldable pub markup_exprs : Bool → (SyntaxKind → Bool) → Parser (Unit {0})
markup_exprs at_start stops = do
  is_deep ← does is_deepest
  pick is_deep (too_deep stops) (do
    ahead ← peek
    x ← repeat (markup_turn false stops) (at_start || ahead.newlines.any, 0)
    gives tt)

-- the expressions of a text or of a content block, from the start of a line: a run, whose first
-- piece is noted before its first look
unfoldable pub markup_run : (SyntaxKind → Bool) → Parser (Unit {0})
markup_run stops = do
  is_deep ← does is_deepest
  pick is_deep (peek >> too_deep stops) (do
    noted ← does (marks (mark.Piece true 0))
    ahead ← peek
    x ← repeat (markup_turn true stops) (true, 0)
    gives tt)

-- a sequence as one node, which begins at its first token
unfoldable pub markup : Bool → (SyntaxKind → Bool) → Parser (Unit {0})
markup at_start stops = node (λ _. becomes kind.Markup) (markup_exprs at_start stops)

-- a sequence as one node, with the trivia at both ends; answers whether it is empty
unfoldable pub markup_is_empty : Parser (Unit {0}) → Parser Bool
markup_is_empty exprs = do
  inside ← node_with_trivia kind.Markup exprs
  gives (is_nil inside)

-- ---- expressions

-- a reading with another newline rule
abbrev pub at_newline : AtNewline → Reading → Reading
at_newline rule r = record r { at_newline = rule }

-- what is between two delimiters: if the second is missing, the first becomes an error, and if
-- nothing is between them, there is a warning
abbrev pub emphasized : SyntaxKind → List ℕ → List ℕ → Bool × Bool → Shape
emphasized k warning hint x = if x.0 && x.1 then warns k warning hint else encloses k x.0

-- what is between two tokens of a kind, which doesn't go past a paragraph break
unfoldable pub delimited : SyntaxKind → (SyntaxKind → Bool) → SyntaxKind → List ℕ → List ℕ → Parser (Unit {0})
delimited k stops delimiter warning hint = within (at_newline newline.StopParBreak) (do
  x ← node (emphasized k warning hint) (do
    first ← eat
    is_empty ← markup_is_empty (markup_exprs false stops)
    closed ← eat_if (same delimiter)
    gives (closed, is_empty))
  gives tt)

-- `*..*`
abbrev pub strong : Parser (Unit {0})
strong = delimited kind.Strong ends_strong kind.Star (codes "no text within stars") (codes "using multiple consecutive stars (e.g. **) has no additional effect")

-- `_.._`
abbrev pub emph : Parser (Unit {0})
emph = delimited kind.Emph ends_emph kind.Underscore (codes "no text within underscores") (codes "using multiple consecutive underscores (e.g. __) has no additional effect")

-- `= ..`: a marker and the rest of its line, up to a label
unfoldable pub heading : Parser (Unit {0})
heading = within (at_newline newline.Stop) (node (λ _. becomes kind.Heading) (eat >> markup false ends_heading))

-- `- ..`, `+ ..` or `1. ..`: a marker, and what is in a greater column than it
unfoldable pub item : SyntaxKind → Parser (Unit {0})
item k = do
  here ← does column
  within (at_newline (newline.RequireColumn here)) (node (λ _. becomes k) (eat >> markup true ends_block))

-- `/ ..: ..`: a marker with the rest of its line up to a colon, and after the colon what is in a
-- greater column than the marker
unfoldable pub term_item : Parser (Unit {0})
term_item = do
  here ← does column
  within (at_newline (newline.RequireColumn here)) (node (λ _. becomes kind.TermItem) (do
    term ← within (at_newline newline.Stop) (eat >> markup false ends_term)
    colon ← expect (same kind.Colon) (codes "colon")
    markup true ends_block))

-- how a content block is read, whatever is around it
abbrev pub markup_reading : Reading
markup_reading = record { mode = mode.Markup; at_newline = newline.Continue }

-- `[ .. ]`, which is markup whatever is around it. After the first bracket nothing is asked before
-- its run begins, and after the second one the next token is asked for as it is read around the
-- block
unfoldable pub content_block : Parser (Unit {0})
content_block = do
  closed ← node (encloses kind.ContentBlock) (scoped (λ _. markup_reading) (do
    bracket ← does (takes false itself)
    is_empty ← markup_is_empty (markup_run ends_block)
    close_if (same kind.RightBracket)))
  gives tt

-- a content block begins here, without trivia before it
abbrev pub opens_directly : AtHand → Bool
opens_directly h = same kind.LeftBracket h.kind && not h.has_trivia

-- a content block, if one begins here without trivia before it
unfoldable pub direct_content : Parser (Unit {0})
direct_content = do
  ahead ← peek
  pick (opens_directly ahead) (read_block block.Content) (gives tt)

-- `@name`, and a content block directly after it
unfoldable pub reference : Parser (Unit {0})
reference = node (λ _. becomes kind.Ref) (eat >> direct_content)

-- what the current token begins; markers are text unless a line begins there
abbrev pub markup_head : Bool → ℕ → SyntaxKind → MarkupHead
markup_head at_start nesting kind.LeftBracket = head.Opening
markup_head at_start nesting kind.RightBracket = if nesting == 0 then head.Stray else head.Closing
markup_head at_start nesting kind.Shebang = head.Itself
markup_head at_start nesting kind.Text = head.Itself
markup_head at_start nesting kind.Linebreak = head.Itself
markup_head at_start nesting kind.Escape = head.Itself
markup_head at_start nesting kind.Shorthand = head.Itself
markup_head at_start nesting kind.SmartQuote = head.Itself
markup_head at_start nesting kind.Link = head.Itself
markup_head at_start nesting kind.Label = head.Itself
markup_head at_start nesting kind.Raw = head.Itself
markup_head at_start nesting kind.RefMarker = head.Reference
markup_head at_start nesting kind.Hash = head.Embedded
markup_head at_start nesting kind.Dollar = head.Equation
markup_head at_start nesting kind.Star = head.Strong
markup_head at_start nesting kind.Underscore = head.Emph
markup_head at_start nesting kind.HeadingMarker = if at_start then head.Heading else head.Plain
markup_head at_start nesting kind.ListMarker = if at_start then head.ListItem else head.Plain
markup_head at_start nesting kind.EnumMarker = if at_start then head.EnumItem else head.Plain
markup_head at_start nesting kind.TermMarker = if at_start then head.TermItem else head.Plain
markup_head at_start nesting kind.Colon = head.Plain
markup_head at_start nesting _ = head.Unexpected

-- the production for what a token begins; answers how many brackets are open after it
abbrev pub markup_by : ℕ → MarkupHead → Parser ℕ
markup_by nesting head.Itself = eat >> gives nesting
markup_by nesting head.Opening = convert_and_eat kind.Text >> gives (one_more nesting)
markup_by nesting head.Closing = convert_and_eat kind.Text >> gives (nesting - 1)
markup_by nesting head.Stray = unexpected (codes "try using a backslash escape: \\]" ∷ []) >> gives nesting
markup_by nesting head.Strong = strong >> gives nesting
markup_by nesting head.Emph = emph >> gives nesting
markup_by nesting head.Heading = heading >> gives nesting
markup_by nesting head.ListItem = item kind.ListItem >> gives nesting
markup_by nesting head.EnumItem = item kind.EnumItem >> gives nesting
markup_by nesting head.TermItem = term_item >> gives nesting
markup_by nesting head.Reference = reference >> gives nesting
markup_by nesting head.Embedded = embedded >> gives nesting
markup_by nesting head.Equation = equation >> gives nesting
markup_by nesting head.Plain = convert_and_eat kind.Text >> gives nesting
markup_by nesting head.Unexpected = unexpected [] >> gives nesting

-- one expression of markup
unfoldable pub markup_expr : Bool → ℕ → Parser ℕ
markup_expr at_start nesting = do
  ahead ← peek
  markup_by nesting (markup_head at_start nesting ahead.kind)
