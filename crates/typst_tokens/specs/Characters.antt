-- Sets of characters, and what digits write.
use Rattle.std.specs.Prelude.{ℕ, ◌+◌, ◌*◌, ◌^◌, Bool, ◌&&◌, ◌||◌, if◌then◌else◌, ◌==◌, nat_lt, List, [], ◌∷◌, length, Option, Some, None, is_some, codes}
use Rattle.std.specs.Char.{is_whitespace, digit_value}
use Rattle.std.specs.List.{list_all}
use Rattle.std.specs.Str.{bytes_eq}
use Rattle.typst_kinds.specs.declared.mode.SyntaxMode.{SyntaxMode}
use Rattle.typst_kinds.specs.declared.mode.SyntaxMode.TheVariants.{Markup, Math, Code}
use Rattle.typst_lines.specs.Newline.{is_newline}
use Rattle.typst_lines.specs.Place.{passes}

-- Whitespace is spaces, tabs and newline characters in markup, and White_Space elsewhere.
abbrev pub is_space : SyntaxMode → ℕ → Bool
is_space Markup c = c == 32 || c == 9 || is_newline c
is_space Math c = is_whitespace c
is_space Code c = is_whitespace c

-- The number that digits write in a base, after those that write n.
unfoldable pub number_after : ℕ → ℕ → List ℕ → ℕ
number_after base n [] = n
number_after base n (c ∷ cs) = number_after base (base * n + digit_value c) cs

-- A number with one digit of the base more, if it is one and the number is below 2 ^ 64.
abbrev pub with_digit : ℕ → ℕ → ℕ → Option ℕ
with_digit base n c = if nat_lt (digit_value c) base && nat_lt (base * n + digit_value c) (2 ^ 64) then Some (base * n + digit_value c) else None

-- The number that digits of the base write, if they are such digits and it is below 2 ^ 64.
abbrev pub number : ℕ → List ℕ → Option ℕ
number base digits = if list_all (λ c. nat_lt (digit_value c) base) digits && nat_lt (number_after base 0 digits) (2 ^ 64) then Some (number_after base 0 digits) else None

-- A number is a Unicode scalar value.
abbrev pub is_scalar : ℕ → Bool
is_scalar n = nat_lt n 0xd800 || (nat_lt 0xdfff n && nat_lt n 0x11_0000)

-- Hexadecimal digits, at least one, name a character.
abbrev pub is_code_point : List ℕ → Bool
is_code_point digits = nat_lt 0 (length digits) && passes is_scalar (number 16 digits)

-- Decimal digits write a number below 2 ^ 64.
abbrev pub is_u64 : List ℕ → Bool
is_u64 digits = is_some (number 10 digits)

-- The suffixes that a number can have, by their bytes.
abbrev pub is_unit : List ℕ → Bool
is_unit s =
    bytes_eq s (codes "pt") || bytes_eq s (codes "mm") || bytes_eq s (codes "cm") || bytes_eq s (codes "in") || bytes_eq s (codes "deg")
    || bytes_eq s (codes "rad") || bytes_eq s (codes "em") || bytes_eq s (codes "fr") || bytes_eq s (codes "%")
