-- Signs that are written with several characters.
use Rattle.std.specs.Prelude.{ℕ, if◌then◌else◌, ◌==◌, List, [], ◌∷◌, length, codes}
use Rattle.typst_lines.specs.Classes.{CharClasses}
use Rattle.typst_kinds.specs.declared.kind.SyntaxKind.{SyntaxKind}
use Rattle.typst_kinds.specs.declared.kind.SyntaxKind.TheVariants as kind
use Rattle.typst_lexer.specs.Atoms.{cluster}
use Rattle.typst_tokens.specs.Reader.{Reader, at_word, if_next}
use Rattle.typst_tokens.specs.Reader.Reader.{answer, eat, skip}
use Rattle.typst_tokens.specs.Common.{sign}
use Rattle.typst_tokens.specs.Memory.{Memory}
use Rattle.typst_tokens.specs.Token.{plain}
use Rattle.typst_tokens.specs.declared.token.Token.{Token}

-- The first of the words that comes next is a token of the kind; another token if none of them does.
abbrev pub any_word : SyntaxKind → List (List ℕ) → Reader Memory Token → Reader Memory Token
any_word k [] other = other
any_word k (word ∷ words) other = at_word 0 word (skip (length word) (answer (plain k))) (any_word k words other)

-- The longest of some shorthands that comes next. Longer ones are listed before shorter ones.
abbrev pub shorthand : List (List ℕ) → Reader Memory Token → Reader Memory Token
shorthand = any_word kind.MathShorthand

-- A hyphen comes next: a shorthand, even alone.
unfoldable pub hyphen : Reader Memory Token
hyphen = shorthand (codes "->>" ∷ codes "-->" ∷ codes "->" ∷ []) (sign kind.MathShorthand)

-- A tilde comes next: a shorthand, even alone.
unfoldable pub tilde : Reader Memory Token
tilde = shorthand (codes "~~>" ∷ codes "~>" ∷ []) (sign kind.MathShorthand)

-- A colon comes next: a shorthand (`before_colon` of ArgumentTokens.antt names both, too), or a cluster.
unfoldable pub colon : CharClasses → Reader Memory Token
colon k = shorthand (codes "::=" ∷ codes ":=" ∷ []) (cluster k)

-- An equals sign comes next: a shorthand, or a cluster.
unfoldable pub equals : CharClasses → Reader Memory Token
equals k = shorthand (codes "==>" ∷ codes "=>" ∷ codes "=:" ∷ []) (cluster k)

-- `>` comes next: a shorthand, or a cluster.
unfoldable pub greater : CharClasses → Reader Memory Token
greater k = shorthand (codes ">->" ∷ codes ">>>" ∷ codes ">=" ∷ codes ">>" ∷ []) (cluster k)

-- `<` comes next: a shorthand of two characters, or a cluster.
unfoldable pub less_short : CharClasses → Reader Memory Token
less_short k = shorthand (codes "<=" ∷ codes "<<" ∷ codes "<-" ∷ codes "<~" ∷ []) (cluster k)

-- `<` comes next: a shorthand of three characters, or of two, or a cluster.
unfoldable pub less_middle : CharClasses → Reader Memory Token
less_middle k = shorthand (codes "<--" ∷ codes "<-<" ∷ codes "<->" ∷ codes "<<-" ∷ codes "<<<" ∷ codes "<=>" ∷ codes "<==" ∷ codes "<~~" ∷ []) (less_short k)

-- `<` comes next: a shorthand of four characters, of three, or of two, or a cluster.
unfoldable pub less : CharClasses → Reader Memory Token
less k = shorthand (codes "<==>" ∷ codes "<-->" ∷ []) (less_middle k)

-- A bar comes next: a shorthand, a bar that with a bracket closes a delimited part, or a cluster.
unfoldable pub bar : CharClasses → Reader Memory Token
bar k = shorthand (codes "|->" ∷ codes "|=>" ∷ codes "||" ∷ []) (any_word kind.RightBrace (codes "|]" ∷ []) (cluster k))

-- A bracket comes next, which opens a delimited part, with a bar or without.
unfoldable pub bracket : Reader Memory Token
bracket = eat (if_next (λ c. c == 124) (answer (plain kind.LeftBrace)) (answer (plain kind.LeftBrace)))

-- `!` comes next: `!=`, or the sign alone.
unfoldable pub bang : Reader Memory Token
bang = shorthand (codes "!=" ∷ []) (sign kind.Bang)

-- A dot comes next: three, or the dot alone.
unfoldable pub dot : Reader Memory Token
dot = shorthand (codes "..." ∷ []) (sign kind.Dot)

-- A shorthand, or what else begins with the character, which comes next.
unfoldable pub several : CharClasses → ℕ → Reader Memory Token → Reader Memory Token
several k c other =
    if c == 45 then hyphen
    else (if c == 126 then tilde
    else (if c == 58 then colon k
    else (if c == 61 then equals k
    else (if c == 62 then greater k
    else (if c == 60 then less k
    else (if c == 124 then bar k
    else (if c == 91 then bracket
    else (if c == 33 then bang
    else (if c == 46 then dot
    else other)))))))))
