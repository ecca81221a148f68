-- What the looks of tokens and columns are good for, and that none of them is too far.
use Rattle.std.specs.Prelude.{◌≡◌, ℕ, [], codes}
use Rattle.typst_kinds.specs.declared.kind.SyntaxKind.TheVariants as kind
use Rattle.typst_kinds.specs.declared.mode.SyntaxMode.{SyntaxMode}
use Rattle.typst_kinds.specs.declared.mode.SyntaxMode.TheVariants.{Markup}
use Rattle.typst_lines.specs.Place.{Place}
use Rattle.typst_lines.specs.Classes.{CharClasses, by_law}
use Rattle.typst_tokens.specs.Column.{column_look}
use Rattle.typst_tokens.specs.Reader.{Look, look, eaten, exec, Agree, SameReading, place}
use Rattle.typst_tokens.specs.Token.{plain}
use Rattle.typst_lexer.specs.Tokens.{token}
use Rattle.typst_tokens.specs.declared.token.Token.{Token}

-- If another place shows the same characters and marks in the look of a token, the token there
-- is the same, as long, and with the same look.
abbrev pub TokenFrame : Type 0
TokenFrame = (k : CharClasses) (mode : SyntaxMode) (p q : Place) → Agree (look (token k mode) p) p q → SameReading (token k mode) p q

-- How far a look goes back and ahead.
abbrev pub reach : ℕ → ℕ → Look
reach back front = record { back = back; front = front }

-- The looks of some tokens, and of a column.
pub record Looks (beyond : CharClasses) : Type 0 where
  -- a line comment and the line feed after it
  pub line_comment : look (token (by_law beyond) Markup) (place [] (codes "// a\nb")) ≡ reach 0 5
  -- a block comment alone, and to the mark if it is unclosed
  pub block_comment : look (token (by_law beyond) Markup) (place [] (codes "/* a */b")) ≡ reach 0 7
  pub unclosed_comment : look (token (by_law beyond) Markup) (place [] (codes "/* a")) ≡ reach 0 5
  -- two line ends and the character after them
  pub parbreak : look (token (by_law beyond) Markup) (place [] (codes "\n\n- a")) ≡ reach 0 3
  -- a list marker and the space after it
  pub list_marker : look (token (by_law beyond) Markup) (place [] (codes "- a")) ≡ reach 0 2
  -- the end alone
  pub end : look (token (by_law beyond) Markup) (place [] []) ≡ reach 0 1
  -- the mark before the text
  pub column : column_look (place [] (codes "- a")) ≡ reach 1 0

-- At two places that agree on less than a token's look, tokens differ.
pub record Differ (k : CharClasses) (l : Look) (p q : Place) (t u : Token) (m n : ℕ) : Type 0 where
  pub agree : Agree l p q
  pub first : (exec (token k Markup) p).0 ≡ t
  pub second : (exec (token k Markup) q).0 ≡ u
  pub first_taken : eaten (token k Markup) p ≡ m
  pub second_taken : eaten (token k Markup) q ≡ n

-- A star between two characters of words is text: the character before counts, and the one ahead.
pub record StarLook (beyond : CharClasses) : Type 0 where
  pub before_space : look (token (by_law beyond) Markup) (place (codes "a") (codes "* ")) ≡ reach 1 2
  pub shorter_ahead : Differ (by_law beyond) (reach 1 1) (place (codes "a") (codes "* ")) (place (codes "a") (codes "*b")) (plain kind.Star) (plain kind.Text) 1 2
  pub at_start : look (token (by_law beyond) Markup) (place [] (codes "*b")) ≡ reach 1 2
  pub shorter_before : Differ (by_law beyond) (reach 0 2) (place [] (codes "*b")) (place (codes "a") (codes "*b")) (plain kind.Star) (plain kind.Text) 1 2

-- A text goes on through `h` where the last slash of `http://` is missing.
pub record TextLook (k : CharClasses) : Type 0 where
  pub look : look (token k Markup) (place [] (codes "ahttp:/")) ≡ reach 0 8
  pub shorter : Differ k (reach 0 7) (place [] (codes "ahttp:/")) (place [] (codes "ahttp://")) (plain kind.Text) (plain kind.Text) 5 1

-- A block comment ends at a slash after a star.
pub record CommentLook (k : CharClasses) : Type 0 where
  pub look : look (token k Markup) (place [] (codes "/*a*/b")) ≡ reach 0 5
  pub shorter : Differ k (reach 0 4) (place [] (codes "/*a*/b")) (place [] (codes "/*a*bc")) (plain kind.BlockComment) (plain kind.BlockComment) 5 6

-- A raw text is looked at to its last backtick, and an unclosed one to the mark.
pub record RawLook (k : CharClasses) : Type 0 where
  pub closed : look (token k Markup) (place [] (codes "`a`b")) ≡ reach 0 3
  pub unclosed : look (token k Markup) (place [] (codes "`a")) ≡ reach 0 3
  -- two backticks end at what isn't a backtick
  pub two : look (token k Markup) (place [] (codes "``a")) ≡ reach 0 3
  pub shorter : Differ k (reach 0 2) (place [] (codes "`a`b")) (place [] (codes "`ab`")) (plain kind.Raw) (plain kind.Raw) 3 4

-- A link is looked at to what ends its front, though the front's last signs aren't taken.
pub record LinkLook (k : CharClasses) : Type 0 where
  pub look : look (token k Markup) (place [] (codes "http://a. ")) ≡ reach 0 10
  pub shorter : Differ k (reach 0 9) (place [] (codes "http://a. ")) (place [] (codes "http://a.b")) (plain kind.Link) (plain kind.Link) 8 10

-- The name of a reference and that of a label are looked at to what ends them.
pub record NameLook (beyond : CharClasses) : Type 0 where
  pub reference : look (token (by_law beyond) Markup) (place [] (codes "@a. ")) ≡ reach 0 4
  pub shorter_reference : Differ (by_law beyond) (reach 0 3) (place [] (codes "@a. ")) (place [] (codes "@a.b")) (plain kind.RefMarker) (plain kind.RefMarker) 2 4
  pub label : look (token (by_law beyond) Markup) (place [] (codes "<a>")) ≡ reach 0 3
  pub shorter_label : Differ (by_law beyond) (reach 0 2) (place [] (codes "<a>")) (place [] (codes "<ab>")) (plain kind.Label) (plain kind.Label) 3 4
  -- a colon begins no label
  pub colon : look (token (by_law beyond) Markup) (place [] (codes "<:a>")) ≡ reach 0 2
