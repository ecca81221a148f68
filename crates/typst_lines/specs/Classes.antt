-- Classes of characters, and the law that every class value keeps.
use Rattle.std.specs.Prelude.{◌≡◌, ◌<◌, ◌≤◌, ℕ, Bool, true, false, not, ◌||◌, if◌then◌else◌, ◌==◌, List, length, Option, Some, None}
use Rattle.std.specs.Char.{IsScalar, is_ascii, is_ascii_alphabetic, is_ascii_alphanumeric, is_ascii_digit, is_whitespace}
use Rattle.std.specs.List.{list_all}
use Rattle.std.specs.Str.{all_scalars}
use Rattle.typst_lines.specs.Newline.{is_newline}
use Rattle.typst_lines.specs.declared.classes.MathClass.{MathClass}
use Rattle.typst_lines.specs.declared.classes.MathClass.TheVariants.{Opening, Closing, Alphabetic}

-- What a class value answers, as functions of the characters. `cluster` counts the characters of
-- the first cluster of a line.
pub record CharClasses : Type 0 where
  pub xid_start : ℕ → Bool
  pub xid_continue : ℕ → Bool
  pub alphabetic : ℕ → Bool
  pub alphanumeric : ℕ → Bool
  pub numeric : ℕ → Bool
  pub word : ℕ → Bool
  pub math : ℕ → Option MathClass
  pub cluster : List ℕ → ℕ

-- An ASCII letter, digit or underscore continues an identifier.
abbrev pub ascii_continue : ℕ → Bool
ascii_continue c = is_ascii_alphanumeric c || c == 95

-- The opening brackets `( [ {`, the closing ones `) ] }` and the letters have a class in formulas.
abbrev pub ascii_math : ℕ → Option MathClass
ascii_math c =
    if c == 40 || c == 91 || c == 123 then Some Opening
    else (if c == 41 || c == 93 || c == 125 then Some Closing
    else (if is_ascii_alphabetic c then Some Alphabetic else None))

-- The answers at an ASCII character are fixed.
pub record OnAscii (k : CharClasses) (c : ℕ) : Type 0 where
  pub xid_start : k.xid_start c ≡ is_ascii_alphabetic c
  pub xid_continue : k.xid_continue c ≡ ascii_continue c
  pub alphabetic : k.alphabetic c ≡ is_ascii_alphabetic c
  pub alphanumeric : k.alphanumeric c ≡ is_ascii_alphanumeric c
  pub numeric : k.numeric c ≡ is_ascii_digit c
  pub word : k.word c ≡ is_ascii_alphanumeric c
  pub math : k.math c ≡ ascii_math c

-- A character is in no class.
pub record InNoClass (k : CharClasses) (c : ℕ) : Type 0 where
  pub xid_start : k.xid_start c ≡ false
  pub xid_continue : k.xid_continue c ≡ false
  pub alphabetic : k.alphabetic c ≡ false
  pub alphanumeric : k.alphanumeric c ≡ false
  pub numeric : k.numeric c ≡ false
  pub word : k.word c ≡ false
  pub math : k.math c ≡ None

-- A character that isn't a newline character.
abbrev pub in_line : ℕ → Bool
in_line c = not (is_newline c)

-- Characters that are a line, or what is left of one: some, and no newline character among them.
pub record IsLine (line : List ℕ) : Type 0 where
  pub some : 0 < length line
  pub scalars : all_scalars line ≡ true
  pub inside : list_all in_line line ≡ true

-- The law: ASCII is fixed, a character with the Unicode property White_Space is in no class, and a
-- cluster of a line is at least one and at most all of its characters, one where all are ASCII.
pub record IsLawful (k : CharClasses) : Type 0 where
  pub ascii : (c : ℕ) → IsScalar c → is_ascii c ≡ true → OnAscii k c
  pub white : (c : ℕ) → IsScalar c → is_whitespace c ≡ true → InNoClass k c
  pub cluster : (line : List ℕ) → IsLine line → (1 ≤ k.cluster line) × (k.cluster line ≤ length line)
  pub ascii_cluster : (line : List ℕ) → IsLine line → list_all is_ascii line ≡ true → k.cluster line ≡ 1

-- `on_ascii` at an ASCII character, `none` at white space, and `beyond` at any other character.
abbrev pub kept : {A : Type 0} → A → (ℕ → A) → (ℕ → A) → ℕ → A
kept none on_ascii beyond c = if is_ascii c then on_ascii c else (if is_whitespace c then none else beyond c)

-- One character of a line all of ASCII, and `beyond` of any other line.
abbrev pub kept_cluster : (List ℕ → ℕ) → List ℕ → ℕ
kept_cluster beyond line = if list_all is_ascii line then 1 else beyond line

-- The class value that answers ASCII and white space by the law, and the rest as `beyond` does.
abbrev pub by_law : CharClasses → CharClasses
by_law beyond = record {
  xid_start = kept false is_ascii_alphabetic beyond.xid_start;
  xid_continue = kept false ascii_continue beyond.xid_continue;
  alphabetic = kept false is_ascii_alphabetic beyond.alphabetic;
  alphanumeric = kept false is_ascii_alphanumeric beyond.alphanumeric;
  numeric = kept false is_ascii_digit beyond.numeric;
  word = kept false is_ascii_alphanumeric beyond.word;
  math = kept None ascii_math beyond.math;
  cluster = kept_cluster beyond.cluster;
}
