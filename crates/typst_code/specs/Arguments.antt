-- Arguments of calls.
use Rattle.std.specs.Prelude.{ℕ, Bool, true, false, not, ◌||◌, ◌&&◌, List, [], Option, Some, None, codes}
use Rattle.typst_kinds.specs.Kinds.{same, is_terminator}
use Rattle.typst_kinds.specs.declared.kind.SyntaxKind.{SyntaxKind}
use Rattle.typst_kinds.specs.declared.kind.SyntaxKind.TheVariants as kind
use Rattle.typst_language.specs.declared.calls.Block.TheVariants as block
use Rattle.typst_language.specs.declared.reading.AtNewline.TheVariants as newline
use Rattle.typst_language.specs.Shape.{NodeChange, Shape, encloses}
use Rattle.typst_language.specs.Shape.NodeChange.{stays, is_not}
use Rattle.typst_language.specs.Shape.Shape.{keeps, holds}
use Rattle.typst_language.specs.Syntax.{Parser, ◌>>=◌, ◌>>◌}
use Rattle.typst_language.specs.Syntax.Op.{advises}
use Rattle.typst_language.specs.Syntax.Parser.{gives, does, pick, repeat}
use Rattle.typst_language.specs.Steps.{peek, eat, eat_if, unexpected, expected, within, node, read_block}
use Rattle.typst_markup.specs.Markup.{at_newline, opens_directly}
use Rattle.typst_markup.specs.declared.keys.Key.{Key}
use Rattle.typst_markup.specs.declared.keys.Key.TheVariants as key
use Rattle.typst_markup.specs.Named.{when_named, with_argument}
use Rattle.typst_bindings.specs.Parts.{separator}
use Rattle.typst_code.specs.Groups.{begins_item, spread, pair}

-- arguments begin with a paren or a bracket
abbrev pub opens_arguments : SyntaxKind → Bool
opens_arguments k = same kind.LeftParen k || same kind.LeftBracket k

-- arguments begin here, directly after what is called
abbrev pub calls_directly : SyntaxKind → Bool → Bool
calls_directly k has_trivia = opens_arguments k && not has_trivia

-- what is done to what is before a colon: it has to be a name, one that wasn't seen
abbrev pub name_change : List (List ℕ) → Key → NodeChange
name_change names (key.Name name) = when_named names name
name_change names (key.Str text) = is_not (codes "identifier")
name_change names key.Other = is_not (codes "identifier")

-- an argument with a key becomes a named one
abbrev pub argument_shape : List (List ℕ) → Option Key → Shape
argument_shape names None = keeps stays
argument_shape names (Some key) = holds (name_change names key) kind.Named

-- one argument; answers the names that were seen
unfoldable pub argument : List (List ℕ) → Parser (List (List ℕ))
argument names = do
  ahead ← peek
  pick (same kind.Dots ahead.kind) (spread >> gives names) (do
    key ← node (argument_shape names) pair
    gives (with_argument names key))

-- an argument and what separates it from the next, unless the list ends
unfoldable pub argument_turn : List (List ℕ) → Parser (Bool × List (List ℕ))
argument_turn names = do
  ahead ← peek
  pick (is_terminator ahead.kind) (gives (false, names)) (pick (begins_item ahead.kind) (do
    more ← argument names
    comma ← separator
    gives (true, more))
      (unexpected [] >> gives (true, names)))

-- `( .. )`; answers whether it was closed
unfoldable pub argument_list : Parser Bool
argument_list = within (at_newline newline.Continue) (do
  paren ← eat
  names ← repeat argument_turn []
  eat_if (same kind.RightParen))

-- `( .. )`, if a paren begins it; answers whether no paren is left open
unfoldable pub listed_arguments : Parser Bool
listed_arguments = do
  ahead ← peek
  pick (same kind.LeftParen ahead.kind) argument_list (gives true)

-- a content block, if one begins here without trivia before it
unfoldable pub content_turn : Unit {0} → Parser (Bool × Unit {0})
content_turn x = do
  ahead ← peek
  pick (opens_directly ahead) (read_block block.Content >> gives (true, tt)) (gives (false, tt))

-- says that arguments are missing, or come after a space
unfoldable pub missing_arguments : Parser (Unit {0})
missing_arguments = do
  said ← expected (codes "argument list")
  ahead ← peek
  pick (opens_arguments ahead.kind) (does (advises (codes "there may not be any spaces before the argument list"))) (gives tt)

-- says that arguments are missing, if none begin directly here
unfoldable pub begin_arguments : Parser (Unit {0})
begin_arguments = do
  ahead ← peek
  pick (calls_directly ahead.kind ahead.has_trivia) (gives tt) missing_arguments

-- the arguments of a call: a list in parens, and content blocks directly after it
unfoldable pub arguments : Parser (Unit {0})
arguments = do
  begun ← begin_arguments
  closed ← node (encloses kind.Args) (do
    closed ← listed_arguments
    blocks ← repeat content_turn tt
    gives closed)
  gives tt
