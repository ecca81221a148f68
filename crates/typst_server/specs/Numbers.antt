-- The numbers in which tokens are sent.
use Rattle.std.specs.Prelude.{◌≡◌, ℕ, ◌+◌, ◌-◌, ◌^◌, ◌==◌, min, Bool, List, [], ◌∷◌, ◌++◌, if◌then◌else◌}
use Rattle.std.specs.declared.ops.Range.{Range}
use Rattle.typst_styles.specs.Tokens.{end_of, tokens_in}
use Rattle.typst_styles.specs.declared.styles.TokenKind.{TokenKind}
use Rattle.typst_styles.specs.declared.styles.TokenKind.TheVariants as kind
use Rattle.typst_styles.specs.declared.tokens.Token.{Token}
use Rattle.typst_positions.specs.Positions.{position_of}
use Rattle.typst_positions.specs.declared.columns.Encoding.{Encoding}
use Rattle.typst_document.specs.Document.{Opened, all_bytes}
use Rattle.typst_server.specs.declared.tokens.Encoder.{Encoder}

-- the number of a type of token
abbrev pub number_of : TokenKind → ℕ
number_of kind.Comment = 0
number_of kind.Keyword = 1
number_of kind.Operator = 2
number_of kind.Number = 3
number_of kind.String = 4
number_of kind.Function = 5
number_of kind.Variable = 6
number_of kind.Punctuation = 7
number_of kind.Escape = 8
number_of kind.Strong = 9
number_of kind.Emph = 10
number_of kind.Link = 11
number_of kind.Raw = 12
number_of kind.Label = 13
number_of kind.Ref = 14
number_of kind.Heading = 15
number_of kind.Marker = 16
number_of kind.Term = 17
number_of kind.Delimiter = 18
number_of kind.Error = 19
number_of kind.Parameter = 20
number_of kind.Property = 21
number_of kind.Namespace = 22

-- the modifiers of a token as bits: the first one says that it binds a name
abbrev pub modifiers_of : Bool → ℕ
modifiers_of is_declaration = if is_declaration then 1 else 0

-- a token as it is shown: where it begins, how many columns it has, and the numbers of its type and its modifiers
pub record Shown : Type 0 where
  pub line : ℕ
  pub column : ℕ
  pub size : ℕ
  pub kind : ℕ
  pub modifiers : ℕ

-- THE NUMBERS READ BACK, after a token at a line and a column, five for each: the line counts from there on; so does the column in the
-- same line, and else from its line's start
abbrev pub decoded : ℕ → ℕ → List ℕ → List Shown
decoded line column (down ∷ right ∷ size ∷ kind ∷ modifiers ∷ numbers) =
    let here = line + down in
    let start = if down == 0 then column + right else right in
    record { line = here; column = start; size = size; kind = kind; modifiers = modifiers } ∷ decoded here start numbers
decoded line column _ = []

-- a token of a text is shown at the position of its start, up to that of its end
abbrev pub shown : Encoding → List ℕ → Token → Shown
shown encoding text token =
    let start = position_of encoding text token.start in
    record {
      line = start.line;
      column = start.column;
      size = (position_of encoding text (end_of token)).column - start.column;
      kind = number_of token.style.kind;
      modifiers = modifiers_of token.style.is_declaration;
    }

-- tokens of a text, as they are shown
abbrev pub shown_each : Encoding → List ℕ → List Token → List Shown
shown_each encoding text [] = []
shown_each encoding text (token ∷ rest) = shown encoding text token ∷ shown_each encoding text rest

-- the tokens of a document's tree with a byte of a range, as they are shown
abbrev pub all_shown : Opened → Range ℕ → List Shown
all_shown document range = shown_each document.encoding document.source.text (tokens_in range document.source.text document.source.root)

-- a count goes as far as the numbers of the protocol do
abbrev pub clipped : ℕ → ℕ
clipped count = min count (2 ^ 32 - 1)

-- the numbers of a token after one at a line and a column
abbrev pub five : ℕ → ℕ → Shown → List ℕ
five line column token =
    clipped (token.line - line) ∷ clipped (token.column - (if token.line == line then column else 0)) ∷ clipped token.size ∷ token.kind ∷ token.modifiers ∷ []

-- the numbers of tokens that follow one another
abbrev pub encoded : ℕ → ℕ → List Shown → List ℕ
encoded line column [] = []
encoded line column (token ∷ rest) = five line column token ++ encoded token.line token.column rest

-- the numbers of all tokens of a document
abbrev pub numbers_of : Opened → List ℕ
numbers_of document = encoded 0 0 (all_shown document (all_bytes document))

-- a token was added
pub record IsAdded (old new : Encoder) (token : Shown) : Type 0 where
  pub numbers : new.numbers.items ≡ old.numbers.items ++ five old.line old.column token
  pub line : new.line ≡ token.line
  pub column : new.column ≡ token.column
