-- Numbers.
use Rattle.std.specs.Prelude.{ℕ, ◌^◌, Bool, ◌||◌, if◌then◌else◌, ◌==◌, nat_lt, List, length, codes, encode_utf8_all}
use Rattle.std.specs.Char.{is_ascii_alphanumeric, is_ascii_digit}
use Rattle.typst_lines.specs.Classes.{CharClasses}
use Rattle.typst_lines.specs.Identifiers.{is_id_start}
use Rattle.typst_tokens.specs.declared.numbers.Numeral.{Numeral}
use Rattle.typst_tokens.specs.declared.numbers.Numeral.TheVariants as numeral
use Rattle.typst_kinds.specs.declared.kind.SyntaxKind.{SyntaxKind}
use Rattle.typst_kinds.specs.declared.kind.SyntaxKind.TheVariants as kind
use Rattle.typst_lines.specs.Place.{passes}
use Rattle.typst_tokens.specs.Reader.{Reader, at_word, if_next}
use Rattle.typst_tokens.specs.Reader.Reader.{answer, peek, eat, skip, eat_run}
use Rattle.typst_tokens.specs.Characters.{is_unit, number}
use Rattle.typst_tokens.specs.Memory.{Memory}
use Rattle.typst_tokens.specs.Token.{plain, faulty, radix_of}
use Rattle.typst_tokens.specs.declared.token.Base.{Base}
use Rattle.typst_tokens.specs.declared.token.Base.TheVariants.{Binary, Octal, Hexadecimal}
use Rattle.typst_tokens.specs.declared.token.Fault.TheVariants as fault
use Rattle.typst_tokens.specs.declared.token.NumberFault.TheVariants as number_fault
use Rattle.typst_tokens.specs.declared.token.Token.{Token}

-- A suffix is made of ASCII letters, digits and percent signs.
abbrev pub in_suffix : ℕ → Bool
in_suffix c = is_ascii_alphanumeric c || c == 37

-- A number of a kind, with a suffix.
abbrev pub with_suffix : SyntaxKind → List ℕ → Token
with_suffix k suffix =
    if length suffix == 0 then plain k
    else (if is_unit suffix then plain kind.Numeric else faulty (fault.Number number_fault.UnknownSuffix))

-- The token of a number, by what is before its suffix, and the suffix's bytes.
abbrev pub numbered : Numeral → List ℕ → Token
numbered (numeral.Valid k) suffix = with_suffix k suffix
numbered (numeral.Based b) suffix = if length suffix == 0 then plain kind.Int else faulty (fault.Number (number_fault.Suffix b))
numbered (numeral.Invalid f) suffix = faulty (fault.Number f)

-- What is left of a number: its suffix.
unfoldable pub suffixed : Numeral → Reader Memory Token
suffixed n = eat_run in_suffix (λ suffix. answer (numbered n (encode_utf8_all suffix)))

-- A number with these digits of an exponent, which needs at least one.
abbrev pub with_exponent : List ℕ → Numeral
with_exponent digits = if length digits == 0 then numeral.Invalid number_fault.Exponent else numeral.Valid kind.Float

-- The digits of an exponent, and a suffix.
unfoldable pub exponent_digits : Reader Memory Token
exponent_digits = eat_run is_ascii_digit (λ digits. suffixed (with_exponent digits))

-- The digits of an exponent, with or without a sign before them.
unfoldable pub signed_digits : Reader Memory Token
signed_digits = if_next (λ c. c == 43) exponent_digits (if_next (λ c. c == 45) exponent_digits exponent_digits)

-- An exponent, if one comes next: it begins with `e` or `E`, but `em` is a suffix.
unfoldable pub exponent : Numeral → Reader Memory Token
exponent n = at_word 0 (codes "em") (suffixed n) (if_next (λ c. c == 101) signed_digits (if_next (λ c. c == 69) signed_digits (suffixed n)))

-- After its first digits a decimal number may have a dot and more digits, unless another dot or
-- what starts an identifier follows the dot.
unfoldable pub fraction : CharClasses → Numeral → Reader Memory Token
fraction k n = at_word 0 (codes "..") (exponent n) (peek 1 (λ c.
    if passes (is_id_start k) c then exponent n
    else if_next (λ c. c == 46) (eat_run is_ascii_digit (λ _. exponent (numeral.Valid kind.Float))) (exponent n)))

-- Digits of a base write a number below 2 ^ 63.
abbrev pub is_i64 : ℕ → List ℕ → Bool
is_i64 radix digits = passes (λ n. nat_lt n (2 ^ 63)) (number radix digits)

-- A decimal integer by its digits: from 2 ^ 63 on it is a Float.
abbrev pub whole : List ℕ → Numeral
whole digits = numeral.Valid (if is_i64 10 digits then kind.Int else kind.Float)

-- Digits come next, and begin a decimal number.
unfoldable pub decimal : CharClasses → Reader Memory Token
decimal k = eat_run is_ascii_digit (λ digits. fraction k (whole digits))

-- A dot and digits come next, which are a number.
unfoldable pub dotted : Reader Memory Token
dotted = eat (eat_run is_ascii_digit (λ _. exponent (numeral.Valid kind.Float)))

-- What is taken for digits of a base: letters too if it is sixteen.
abbrev pub is_digit_of : Base → ℕ → Bool
is_digit_of Binary c = is_ascii_digit c
is_digit_of Octal c = is_ascii_digit c
is_digit_of Hexadecimal c = is_ascii_alphanumeric c

-- A number of a base, which needs digits, of that base, and is below 2 ^ 63.
abbrev pub based : Base → List ℕ → Numeral
based b digits =
    if length digits == 0 then numeral.Invalid (number_fault.NoDigits b)
    else (if is_i64 (radix_of b) digits then numeral.Based b else numeral.Invalid (number_fault.WrongDigits b))

-- `0b`, `0o` or `0x` comes next, before the digits of a base.
unfoldable pub in_base : Base → Reader Memory Token
in_base b = skip 2 (eat_run (is_digit_of b) (λ digits. suffixed (based b digits)))

-- A zero comes next, which may begin `0b`, `0o` or `0x`.
unfoldable pub zero_first : CharClasses → Reader Memory Token
zero_first k = peek 1 (λ c.
    if passes (λ c. c == 98) c then in_base Binary
    else (if passes (λ c. c == 111) c then in_base Octal
    else (if passes (λ c. c == 120) c then in_base Hexadecimal
    else decimal k)))

-- A digit comes next, and begins a number.
unfoldable pub number_token : CharClasses → ℕ → Reader Memory Token
number_token k c = if c == 48 then zero_first k else decimal k
