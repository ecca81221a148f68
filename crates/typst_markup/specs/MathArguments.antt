-- Arguments of calls in formulas.
use Rattle.std.specs.Prelude.{ℕ, Bool, true, false, ◌||◌, ◌&&◌, if◌then◌else◌, ◌==◌, List, [], Some, codes}
use Rattle.typst_kinds.specs.Kinds.{same}
use Rattle.typst_kinds.specs.declared.kind.SyntaxKind.{SyntaxKind}
use Rattle.typst_kinds.specs.declared.kind.SyntaxKind.TheVariants as kind
use Rattle.typst_language.specs.declared.calls.Way.TheVariants as way
use Rattle.typst_language.specs.Shape.{NodeChange, Making, Shape, becomes, encloses}
use Rattle.typst_language.specs.Shape.NodeChange.{stays}
use Rattle.typst_language.specs.Shape.Making.{itself, wanted}
use Rattle.typst_language.specs.Shape.Shape.{keeps, holds}
use Rattle.typst_language.specs.Syntax.{Parser, ◌>>=◌, ◌>>◌}
use Rattle.typst_language.specs.Syntax.Op.{so}
use Rattle.typst_language.specs.Syntax.Parser.{gives, does, pick, repeat}
use Rattle.typst_language.specs.Steps.{peek, eat, convert_and_eat, eat_if, eat_so, expected, node}
use Rattle.typst_language.specs.Expected.{seeing}
use Rattle.typst_markup.specs.Equations.{ends_argument, ends_list, separates, math_exprs}
use Rattle.typst_markup.specs.declared.keys.Key.{Key}
use Rattle.typst_markup.specs.declared.keys.Key.TheVariants as key
use Rattle.typst_markup.specs.Keys.{key_of}
use Rattle.typst_markup.specs.Named.{when_named, with_argument}

-- several expressions of an argument, or none, become math; one stays as it is
abbrev pub value_shape : ℕ → Shape
value_shape count = if count == 1 then keeps stays else becomes kind.Math

-- a named argument has no value
abbrev pub is_missing : Bool → ℕ → Bool
is_missing is_named count = is_named && count == 0

-- the expressions of an argument, of which a named one has to have some; answers how many there are
unfoldable pub argument_exprs : Bool → Parser ℕ
argument_exprs is_named = do
  count ← math_exprs ends_argument
  said ← pick (is_missing is_named count) (expected (codes "expression")) (gives tt)
  gives count

-- the value of an argument, as one node
unfoldable pub argument_value : Bool → Parser (Unit {0})
argument_value is_named = do
  count ← node value_shape (argument_exprs is_named)
  gives tt

-- a name as it is, but an underscore as the error that an identifier was expected
abbrev pub name_making : SyntaxKind → Making
name_making k = if same kind.Underscore k then wanted (codes "identifier") else itself

-- takes the name of an argument
unfoldable pub eat_name : SyntaxKind → Parser (Unit {0})
eat_name k = eat_so way.NamedArgument (name_making k)

-- a name before a colon; answers it as a key
unfoldable pub argument_name : SyntaxKind → Parser Key
argument_name k = do
  name ← seeing (eat_name k)
  gives (key_of name.1)

-- a name that was seen becomes an error
abbrev pub name_change : List (List ℕ) → Key → NodeChange
name_change names (key.Name name) = when_named names name
name_change names _ = stays

-- a name, its colon, and a value; answers the name as a key
unfoldable pub named_argument : SyntaxKind → List (List ℕ) → Parser Key
named_argument k names = node (λ key. holds (name_change names key) kind.Named) (do
  key ← argument_name k
  colon ← convert_and_eat kind.Colon
  value ← argument_value true
  gives key)

-- `..` and a value
unfoldable pub spread_argument : Parser (Unit {0})
spread_argument = node (λ _. becomes kind.Spread) (eat_so way.SpreadArgument itself >> argument_value false)

-- the name of an argument, or an underscore instead
abbrev pub names_argument : SyntaxKind → Bool
names_argument k = same kind.Ident k || same kind.Underscore k

-- one argument: whether a spread or a name begins is looked up where the current token begins;
-- answers the names that were seen
unfoldable pub math_argument : List (List ℕ) → Parser (List (List ℕ))
math_argument names = do
  ahead ← peek
  dots ← does (so way.SpreadArgument)
  pick (same kind.Dots dots) (spread_argument >> gives names) (do
    name ← does (so way.NamedArgument)
    pick (names_argument name) (do
      key ← named_argument name names
      gives (with_argument names (Some key)))
        (argument_value false >> gives names))

-- the comma or semicolon after an argument, unless the list ends
unfoldable pub argument_end : Parser (Unit {0})
argument_end = do
  ahead ← peek
  pick (separates ahead.kind) eat (pick (ends_list ahead.kind) (gives tt) (expected (codes "comma or semicolon")))

-- an argument and what separates it from the next, unless the list ends
unfoldable pub math_argument_turn : List (List ℕ) → Parser (Bool × List (List ℕ))
math_argument_turn names = do
  ahead ← peek
  pick (ends_list ahead.kind) (gives (false, names)) (do
    more ← math_argument names
    separator ← argument_end
    gives (true, more))

-- `( .. )` after a name: the arguments of a call
unfoldable pub math_arguments : Parser (Unit {0})
math_arguments = do
  closed ← node (encloses kind.MathArgs) (do
    paren ← eat
    names ← repeat math_argument_turn []
    eat_if (same kind.RightParen))
  gives tt
