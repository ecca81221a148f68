-- The tokens of code.
use Rattle.std.specs.Prelude.{ℕ, ◌||◌, if◌then◌else◌, ◌==◌}
use Rattle.std.specs.Char.{is_ascii_digit}
use Rattle.typst_lines.specs.Classes.{CharClasses}
use Rattle.typst_lines.specs.Identifiers.{is_id_continue, is_id_start}
use Rattle.typst_tokens.specs.Identifiers.{ident}
use Rattle.typst_tokens.specs.Invalid.{invalid}
use Rattle.typst_tokens.specs.Numbers.{dotted, number_token}
use Rattle.typst_tokens.specs.Strings.{string}
use Rattle.typst_kinds.specs.declared.kind.SyntaxKind.{SyntaxKind}
use Rattle.typst_kinds.specs.declared.kind.SyntaxKind.TheVariants as kind
use Rattle.typst_lines.specs.Place.{passes}
use Rattle.typst_tokens.specs.Reader.{Reader, if_next}
use Rattle.typst_tokens.specs.Reader.Reader.{answer, peek, eat, skip}
use Rattle.typst_tokens.specs.Common.{sign}
use Rattle.typst_tokens.specs.Labels.{label}
use Rattle.typst_tokens.specs.Memory.{Memory}
use Rattle.typst_tokens.specs.Token.{plain}
use Rattle.typst_tokens.specs.declared.token.Token.{Token}

-- A sign, and another one where an equals sign comes after it.
unfoldable pub with_equals : SyntaxKind → SyntaxKind → Reader Memory Token
with_equals alone both = eat (if_next (λ c. c == 61) (answer (plain both)) (answer (plain alone)))

-- `<` comes next: before a character of identifiers it begins a label.
unfoldable pub less : CharClasses → Reader Memory Token
less k = peek 1 (λ c. if passes (is_id_continue k) c then label k else with_equals kind.Lt kind.LtEq)

-- One dot or two.
unfoldable pub dots : Reader Memory Token
dots = eat (if_next (λ c. c == 46) (answer (plain kind.Dots)) (answer (plain kind.Dot)))

-- A dot comes next: before a digit it begins a number.
unfoldable pub dot : Reader Memory Token
dot = peek 1 (λ c.
    if passes is_ascii_digit c then dotted
    else dots)

-- `=` comes next: `==`, `=>`, or the sign alone.
unfoldable pub equals : Reader Memory Token
equals = eat (if_next (λ c. c == 61) (answer (plain kind.EqEq)) (if_next (λ c. c == 62) (answer (plain kind.Arrow)) (answer (plain kind.Eq))))

-- `!` comes next, which is only the beginning of `!=`.
unfoldable pub bang : Reader Memory Token
bang = peek 1 (λ c. if passes (λ c. c == 61) c then skip 2 (answer (plain kind.ExclEq)) else invalid 33)

-- A sign alone, a name, or an error.
unfoldable pub single : CharClasses → ℕ → Reader Memory Token
single k c =
    if c == 123 then sign kind.LeftBrace
    else (if c == 125 then sign kind.RightBrace
    else (if c == 91 then sign kind.LeftBracket
    else (if c == 93 then sign kind.RightBracket
    else (if c == 40 then sign kind.LeftParen
    else (if c == 41 then sign kind.RightParen
    else (if c == 36 then sign kind.Dollar
    else (if c == 44 then sign kind.Comma
    else (if c == 59 then sign kind.Semicolon
    else (if c == 58 then sign kind.Colon
    else (if is_id_start k c then ident k c
    else invalid c))))))))))

-- A token of code that begins with the character, which comes next and begins no token that all modes
-- share. The sign U+2212 is a minus.
unfoldable pub code : CharClasses → ℕ → Reader Memory Token
code k c =
    if c == 60 then less k
    else (if is_ascii_digit c then number_token k c
    else (if c == 46 then dot
    else (if c == 34 then string
    else (if c == 61 then equals
    else (if c == 33 then bang
    else (if c == 62 then with_equals kind.Gt kind.GtEq
    else (if c == 43 then with_equals kind.Plus kind.PlusEq
    else (if c == 45 || c == 8722 then with_equals kind.Minus kind.HyphEq
    else (if c == 42 then with_equals kind.Star kind.StarEq
    else (if c == 47 then with_equals kind.Slash kind.SlashEq
    else single k c))))))))))
