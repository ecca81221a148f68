-- The tokens of formulas.
use Rattle.std.specs.Prelude.{ℕ, ◌||◌, if◌then◌else◌, ◌==◌, Option, Some, None}
use Rattle.typst_lines.specs.Classes.{CharClasses}
use Rattle.typst_lines.specs.declared.classes.MathClass.{MathClass}
use Rattle.typst_lines.specs.declared.classes.MathClass.TheVariants.{Opening, Closing}
use Rattle.typst_tokens.specs.Strings.{string}
use Rattle.typst_kinds.specs.declared.kind.SyntaxKind.TheVariants as kind
use Rattle.typst_lexer.specs.Atoms.{text}
use Rattle.typst_lexer.specs.MathNames.{name}
use Rattle.typst_lexer.specs.Shorthands.{several}
use Rattle.typst_tokens.specs.Reader.{Reader}
use Rattle.typst_tokens.specs.Reader.Reader.{answer, peek, eat_run}
use Rattle.typst_tokens.specs.Common.{sign}
use Rattle.typst_tokens.specs.Escapes.{backslash}
use Rattle.typst_tokens.specs.Memory.{Memory}
use Rattle.typst_tokens.specs.Token.{plain}
use Rattle.typst_tokens.specs.declared.token.Token.{Token}

-- Primes come next: all of them.
unfoldable pub primes : Reader Memory Token
primes = eat_run (λ c. c == 39) (λ _. answer (plain kind.MathPrimes))

-- A name, a number or a cluster that begins with the character, which comes next.
unfoldable pub atom : CharClasses → ℕ → Reader Memory Token
atom k c = if k.xid_start c then name k c else text k c

-- A character of this class comes next: it opens or closes a delimited part, or neither.
unfoldable pub by_class : CharClasses → ℕ → Option MathClass → Reader Memory Token
by_class k c (Some Opening) = sign kind.LeftBrace
by_class k c (Some Closing) = sign kind.RightBrace
by_class k c _ = atom k c

-- A sign of one character, or what the character's class says.
unfoldable pub single : CharClasses → ℕ → Reader Memory Token
single k c =
    if c == 42 then sign kind.MathShorthand
    else (if c == 44 then sign kind.Comma
    else (if c == 59 then sign kind.Semicolon
    else (if c == 35 then sign kind.Hash
    else (if c == 95 then sign kind.Underscore
    else (if c == 36 then sign kind.Dollar
    else (if c == 47 then sign kind.Slash
    else (if c == 94 then sign kind.Hat
    else (if c == 38 then sign kind.MathAlignPoint
    else (if c == 40 then sign kind.LeftParen
    else (if c == 41 then sign kind.RightParen
    else (if c == 8730 || c == 8731 || c == 8732 then sign kind.Root
    else by_class k c (k.math c))))))))))))

-- A token that begins with the character, which comes next and begins no token that all modes share.
unfoldable pub math_from : CharClasses → ℕ → Reader Memory Token
math_from k c =
    if c == 92 then backslash
    else (if c == 34 then string
    else (if c == 39 then primes
    else several k c (single k c)))

-- The token of a formula that comes next, unless it is one that all modes share.
unfoldable pub math : CharClasses → Reader Memory Token
math k = peek 0 (λ c. elim c [ None ↦ answer (plain kind.End) | Some c ↦ math_from k c ])
