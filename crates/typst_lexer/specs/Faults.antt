-- What is said of faults, by the characters that were taken.
use Rattle.std.specs.Prelude.{ℕ, Bool, if◌then◌else◌, ◌||◌, ◌==◌, List, [], ◌∷◌, ◌++◌, length, drop, reverse, Some, None, codes, encode_utf8_all}
use Rattle.std.specs.Char.{is_ascii_alphanumeric, is_ascii_digit}
use Rattle.std.specs.Fmt.{decimal}
use Rattle.std.specs.Str.{bytes_eq}
use Rattle.typst_tokens.specs.Numbers.{is_digit_of}
use Rattle.typst_lines.specs.Place.{Place, moved, run, past, passes, scout, word_at}
use Rattle.typst_tokens.specs.Reader.{place}
use Rattle.typst_tokens.specs.Characters.{is_unit, number}
use Rattle.typst_tokens.specs.Token.{radix_of}
use Rattle.typst_tokens.specs.declared.token.Base.{Base}
use Rattle.typst_tokens.specs.declared.token.Base.TheVariants.{Binary, Octal, Hexadecimal}
use Rattle.typst_tokens.specs.declared.token.Fault.{Fault}
use Rattle.typst_tokens.specs.declared.token.Fault.TheVariants.{CommentEnd, UnclosedRaw, UnclosedEscape, InvalidEscape, UnbalancedLink, UnclosedLabel, UnclosedString, Number, InvalidCharacter, HashedCharacter, InvalidOperator}
use Rattle.typst_tokens.specs.declared.token.NumberFault.{NumberFault}
use Rattle.typst_tokens.specs.declared.token.NumberFault.TheVariants.{UnknownSuffix, Exponent, NoDigits, WrongDigits, Suffix}

-- The letters and digits of an escape, which are after `\u{`.
abbrev pub escaped : List ℕ → List ℕ
escaped taken = run is_ascii_alphanumeric (moved 3 (place [] taken))

-- ---- numbers

-- What a decimal number is made of before its exponent.
abbrev pub is_decimal : ℕ → Bool
is_decimal c = is_ascii_digit c || c == 46

-- A plus or a minus.
abbrev pub is_sign : ℕ → Bool
is_sign c = c == 43 || c == 45

-- `e` or `E`.
abbrev pub is_exponent : ℕ → Bool
is_exponent c = c == 101 || c == 69

-- The place after a sign, if one comes next.
abbrev pub after_sign : Place → Place
after_sign z = if passes is_sign (scout 0 z) then moved 1 z else z

-- The place after an exponent, with its sign and its digits, if one comes next; `em` begins a
-- suffix.
abbrev pub after_exponent : Place → Place
after_exponent z =
    if word_at 0 (codes "em") z then z
    else (if passes is_exponent (scout 0 z) then past is_ascii_digit (after_sign (moved 1 z)) else z)

-- Where the suffix of a number begins: after the digits of its base, which come after two
-- characters, or after its exponent.
abbrev pub at_suffix : NumberFault → Place → Place
at_suffix UnknownSuffix z = after_exponent (past is_decimal z)
at_suffix Exponent z = after_exponent (past is_decimal z)
at_suffix (NoDigits b) z = past (is_digit_of b) (moved 2 z)
at_suffix (WrongDigits b) z = past (is_digit_of b) (moved 2 z)
at_suffix (Suffix b) z = past (is_digit_of b) (moved 2 z)

-- A number without its suffix, by its characters.
abbrev pub without_suffix : NumberFault → List ℕ → List ℕ
without_suffix f taken = reverse (at_suffix f (place [] taken)).before

-- The suffix of a number, by its characters.
abbrev pub suffix_of : NumberFault → List ℕ → List ℕ
suffix_of f taken = (at_suffix f (place [] taken)).ahead

-- The name of a base in messages.
abbrev pub name_of : Base → List ℕ
name_of Binary = codes "binary"
name_of Octal = codes "octal"
name_of Hexadecimal = codes "hexadecimal"

-- What is said of a base without digits.
abbrev pub wanted : Base → List ℕ
wanted Binary = codes "expected a binary number"
wanted Octal = codes "expected an octal number"
wanted Hexadecimal = codes "expected a hexadecimal number"

-- What is said of a suffix that no number has.
abbrev pub unknown_suffix : List ℕ → List ℕ
unknown_suffix suffix = codes "invalid number suffix: `" ++ (suffix ++ codes "`")

-- What is said of a number, by the bytes before its suffix and the suffix's.
abbrev pub number_message : NumberFault → List ℕ → List ℕ → List ℕ
number_message UnknownSuffix before suffix = unknown_suffix suffix
number_message Exponent before suffix = codes "invalid floating point number: `" ++ (before ++ codes "`")
number_message (NoDigits b) before suffix = wanted b
number_message (WrongDigits b) before suffix = codes "invalid " ++ (name_of b ++ (codes " number: `" ++ (before ++ codes "`")))
number_message (Suffix b) before suffix = name_of b ++ codes " numbers cannot have a suffix"

-- The number that digits of a base write.
abbrev pub value_of : Base → List ℕ → ℕ
value_of b digits = elim (number (radix_of b) digits) [ Some n ↦ n | None ↦ 0 ]

-- The hint to write the number in decimal digits, with the suffix. Its digits come after the two
-- characters of its base.
abbrev pub in_decimal : Base → List ℕ → List ℕ → List ℕ
in_decimal b before suffix = codes "try using a decimal number: `" ++ (decimal (value_of b (drop 2 before)) ++ (suffix ++ codes "`"))

-- The hint for a suffix that no number has, given beside another fault.
abbrev pub suffix_hints : List ℕ → List (List ℕ)
suffix_hints suffix = if length suffix == 0 || is_unit suffix then [] else (unknown_suffix suffix ∷ [])

-- The hints for a fault of a number, by the characters before the suffix, and the suffix's bytes:
-- after a number of a base, a suffix that others can have asks for decimal digits.
abbrev pub number_hints : NumberFault → List ℕ → List ℕ → List (List ℕ)
number_hints UnknownSuffix before suffix = []
number_hints Exponent before suffix = suffix_hints suffix
number_hints (NoDigits b) before suffix = suffix_hints suffix
number_hints (WrongDigits b) before suffix = suffix_hints suffix
number_hints (Suffix b) before suffix =
    if is_unit suffix then (in_decimal b before suffix ∷ []) else (unknown_suffix suffix ∷ [])

-- ---- characters

-- What is said of a character that no token of code begins with.
abbrev pub invalid_character : List ℕ → List ℕ
invalid_character text = codes "the character `" ++ (text ++ codes "` is not valid in code")

-- The hints for a character that no token of code begins with.
abbrev pub character_hints : List ℕ → List (List ℕ)
character_hints text =
    if bytes_eq text (codes "#") then (codes "you are already in code mode" ∷ codes "try removing the `#`" ∷ [])
    else (if bytes_eq text (codes "!") then (codes "in Typst, `not` is used for negation" ∷ codes "or did you mean to write `!=` for not-equal?" ∷ []) else [])

-- The hints for an operator of other languages.
abbrev pub operator_hints : List ℕ → List (List ℕ)
operator_hints text =
    if bytes_eq text (codes "&&") then (codes "in Typst, `and` is used for logical AND" ∷ [])
    else (if bytes_eq text (codes "||") then (codes "in Typst, `or` is used for logical OR" ∷ [])
    else (if bytes_eq text (codes "~=") then (codes "in Typst, `!=` is used for not-equal" ∷ []) else []))

-- ---- all faults

-- The message of a fault, by the characters that its token took.
abbrev pub message : Fault → List ℕ → List ℕ
message CommentEnd taken = codes "unexpected end of block comment"
message UnclosedRaw taken = codes "unclosed raw text"
message UnclosedEscape taken = codes "unclosed Unicode escape sequence"
message InvalidEscape taken = codes "invalid Unicode codepoint: " ++ encode_utf8_all (escaped taken)
message UnbalancedLink taken = codes "automatic links cannot contain unbalanced brackets, use the `link` function instead"
message UnclosedLabel taken = codes "unclosed label"
message UnclosedString taken = codes "unclosed string"
message (Number f) taken = number_message f (encode_utf8_all (without_suffix f taken)) (encode_utf8_all (suffix_of f taken))
message InvalidCharacter taken = invalid_character (encode_utf8_all taken)
message HashedCharacter taken = invalid_character (encode_utf8_all taken)
message InvalidOperator taken = codes "`" ++ (encode_utf8_all taken ++ codes "` is not valid in code")

-- The hints for a fault, by the characters that its token took.
abbrev pub hints : Fault → List ℕ → List (List ℕ)
hints CommentEnd taken = codes "consider escaping the `*` with a backslash or opening the block comment with `/*`" ∷ []
hints (Number f) taken = number_hints f (without_suffix f taken) (encode_utf8_all (suffix_of f taken))
hints InvalidCharacter taken = character_hints (encode_utf8_all taken)
hints HashedCharacter taken = codes "the preceding hash is causing this to parse in code mode" ∷ codes "try escaping the preceding hash: `\\#`" ∷ []
hints InvalidOperator taken = operator_hints (encode_utf8_all taken)
hints _ taken = []
