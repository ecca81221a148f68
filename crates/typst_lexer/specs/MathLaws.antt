-- What the looks of the tokens of formulas are good for, and some looks written out.
use Rattle.std.specs.Prelude.{◌≡◌, ◌≤◌, ℕ, List, [], ◌∷◌, Some, codes}
use Rattle.typst_lines.specs.Classes.{CharClasses, by_law}
use Rattle.typst_kinds.specs.declared.kind.SyntaxKind.TheVariants as kind
use Rattle.typst_lines.specs.Place.{Place, scout}
use Rattle.typst_lexer.specs.ArgumentTokens.{named_argument, spread_argument}
use Rattle.typst_lexer.specs.Math.{math}
use Rattle.typst_tokens.specs.Reader.{Look, Reader, look, eaten, exec, Agree, SameReading, place}
use Rattle.typst_tokens.specs.Memory.{Memory}
use Rattle.typst_tokens.specs.Token.{plain}
use Rattle.typst_tokens.specs.declared.token.Token.{Token}

-- If another place shows the same characters and marks in the look of a reading, the reading there
-- is the same, as long, and with the same look.
abbrev pub IsFramed : Reader Memory Token → Type 0
IsFramed r = (p q : Place) → Agree (look r p) p q → SameReading r p q

-- The frame law of a formula's tokens, and of the name and the dots that begin an argument.
pub record MathFrame (k : CharClasses) : Type 0 where
  pub token : IsFramed (math k)
  pub named : IsFramed (named_argument k)
  pub spread : IsFramed spread_argument

-- Each token takes at least one character, for every class value, also one without the law.
abbrev pub MathGoesOn : Type 0
MathGoesOn = (k : CharClasses) (c : ℕ) (p : Place) → scout 0 p ≡ Some c → 1 ≤ eaten (math k) p

-- A look that goes so far ahead, and not back.
abbrev pub ahead : ℕ → Look
ahead front = record { back = 0; front = front }

-- The look of a reading at a text's start, its token, and how many characters it takes.
pub record Shows (r : Reader Memory Token) (text : List ℕ) (l : Look) (t : Token) (n : ℕ) : Type 0 where
  pub look : look r (place [] text) ≡ l
  pub token : (exec r (place [] text)).0 ≡ t
  pub taken : eaten r (place [] text) ≡ n

-- The looks of some tokens.
pub record MathLooks (beyond : CharClasses) : Type 0 where
  -- a letter alone is a cluster, which is looked for to what ends the line
  pub letter : Shows (math (by_law beyond)) (codes "x y\nz") (ahead 4) (plain kind.MathText) 1
  pub sign : Shows (math (by_law beyond)) (codes "+1") (ahead 3) (plain kind.MathText) 1
  -- an underscore continues no name
  pub subscript : Shows (math (by_law beyond)) (codes "a_b") (ahead 4) (plain kind.MathText) 1
  -- after a name the second character is looked at, but not the rest of the line
  pub name : Shows (math (by_law beyond)) (codes "ab c d") (ahead 4) (plain kind.MathIdent) 2
  pub name_before_dot : Shows (math (by_law beyond)) (codes "ab.1 c") (ahead 4) (plain kind.MathIdent) 2
  pub field : Shows (math (by_law beyond)) (codes "ab.c d e") (ahead 6) (plain kind.MathFieldAccess) 4
  pub fields : Shows (math (by_law beyond)) (codes "ab.c.de") (ahead 8) (plain kind.MathFieldAccess) 7
  -- a dot is a number's before a digit
  pub number : Shows (math (by_law beyond)) (codes "12.5x") (ahead 5) (plain kind.MathText) 4
  pub number_before_dot : Shows (math (by_law beyond)) (codes "1.x") (ahead 3) (plain kind.MathText) 1
  pub primes : Shows (math (by_law beyond)) (codes "''a") (ahead 3) (plain kind.MathPrimes) 2
  -- the longest shorthand, and what was looked at for longer ones
  pub arrow : Shows (math (by_law beyond)) (codes "<==>a") (ahead 4) (plain kind.MathShorthand) 4
  pub short_arrow : Shows (math (by_law beyond)) (codes "<-a b") (ahead 3) (plain kind.MathShorthand) 2
  pub hyphen : Shows (math (by_law beyond)) (codes "-a b") (ahead 2) (plain kind.MathShorthand) 1
  pub two_dots : Shows (math (by_law beyond)) (codes "..a b") (ahead 3) (plain kind.Dot) 1
  -- a colon alone is a cluster
  pub colon : Shows (math (by_law beyond)) (codes ": a") (ahead 4) (plain kind.MathText) 1
  -- delimiters of one character and of two
  pub paren : Shows (math (by_law beyond)) (codes "(a") (ahead 1) (plain kind.LeftParen) 1
  pub brace : Shows (math (by_law beyond)) (codes "{a") (ahead 1) (plain kind.LeftBrace) 1
  pub opening : Shows (math (by_law beyond)) (codes "[|a") (ahead 2) (plain kind.LeftBrace) 2
  pub closing : Shows (math (by_law beyond)) (codes "|]a") (ahead 2) (plain kind.RightBrace) 2
  pub root : Shows (math (by_law beyond)) (8730 ∷ codes "a") (ahead 1) (plain kind.Root) 1
  pub string : Shows (math (by_law beyond)) (codes "\"a\"b") (ahead 3) (plain kind.Str) 3
  -- the name of an argument, the colon and what comes after it
  pub argument : Shows (named_argument (by_law beyond)) (codes "a: 1") (ahead 3) (plain kind.Ident) 1
  pub no_argument : Shows (named_argument (by_law beyond)) (codes "a b") (ahead 2) (plain kind.End) 1
  pub underscore : Shows (named_argument (by_law beyond)) (codes "_: 1") (ahead 3) (plain kind.Underscore) 1
  pub definition : (exec (named_argument (by_law beyond)) (place [] (codes "a:=1"))).0 ≡ plain kind.End
  pub spread : Shows spread_argument (codes "..x") (ahead 3) (plain kind.Dots) 2
  pub three_dots : (exec spread_argument (place [] (codes "...x"))).0 ≡ plain kind.End
