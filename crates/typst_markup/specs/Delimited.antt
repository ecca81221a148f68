-- Delimiters, and what is between two of them.
use Rattle.std.specs.Prelude.{ℕ, Bool, ◌||◌, if◌then◌else◌, List, ◌∷◌, codes}
use Rattle.std.specs.Str.{bytes_eq}
use Rattle.typst_kinds.specs.declared.kind.SyntaxKind.{SyntaxKind}
use Rattle.typst_kinds.specs.declared.kind.SyntaxKind.TheVariants as kind
use Rattle.typst_language.specs.Shape.{Shape, Seen, becomes}
use Rattle.typst_language.specs.Shape.NodeChange.{stays, renamed}
use Rattle.typst_language.specs.Shape.Seen.{leaf_seen}
use Rattle.typst_language.specs.Shape.Shape.{keeps}
use Rattle.typst_language.specs.Syntax.{Parser, ◌>>=◌}
use Rattle.typst_language.specs.Syntax.Parser.{gives, pick}
use Rattle.typst_language.specs.Steps.{peek, eat, node}
use Rattle.typst_language.specs.Expected.{seeing}
use Rattle.typst_markup.specs.Equations.{is_closer, ends_delimited, math_exprs}

-- the kind of a delimiter with this text: `[|` and `|]` are shorthands, others are text
abbrev pub sign_kind : List ℕ → SyntaxKind
sign_kind text = if bytes_eq text (codes "[|") || bytes_eq text (codes "|]") then kind.MathShorthand else kind.MathText

-- the kind of the delimiter that is the first of some nodes
abbrev pub delimiter_kind : List Seen → SyntaxKind
delimiter_kind (leaf_seen k text ∷ more) = sign_kind text
delimiter_kind _ = kind.MathText

-- takes a delimiter; answers which kind it is to have
unfoldable pub delimiter_sign : Parser SyntaxKind
delimiter_sign = do
  sign ← seeing eat
  gives (delimiter_kind sign.1)

-- a delimiter
unfoldable pub delimiter : Parser (Unit {0})
delimiter = do
  kind ← node (λ k. keeps (renamed k)) delimiter_sign
  gives tt

-- between two delimiters expressions are math
abbrev pub body_shape : Bool → Shape
body_shape closed = if closed then becomes kind.Math else keeps stays

-- expressions up to what closes them; answers whether that comes
unfoldable pub delimited_body : Parser Bool
delimited_body = node body_shape (do
  count ← math_exprs ends_delimited
  ahead ← peek
  gives (is_closer ahead.kind))

-- the second delimiter, if it comes
unfoldable pub delimiter_if : Bool → Parser (Unit {0})
delimiter_if comes = pick comes delimiter (gives tt)

-- delimiters with what is between them; without the second one all is math
abbrev pub delimited_shape : Bool → Shape
delimited_shape closed = becomes (if closed then kind.MathDelimited else kind.Math)

-- a delimiter and expressions, up to one that closes them, of any kind
unfoldable pub delimited : Parser (Unit {0})
delimited = do
  closed ← node delimited_shape (do
    opener ← delimiter
    closed ← delimited_body
    closer ← delimiter_if closed
    gives closed)
  gives tt
