-- Keys of pairs.
use Rattle.std.specs.Prelude.{ℕ, zero, suc, ◌+◌, Bool, if◌then◌else◌, ◌==◌, List, [], ◌∷◌, ◌++◌, take, drop, slice_get, encode_utf8, encode_utf8_all, Option, Some, None}
use Rattle.std.specs.Char.{is_ascii_hexdigit}
use Rattle.std.specs.List.{prefix_len}
use Rattle.std.specs.Str.{chars}
use Rattle.typst_kinds.specs.Kinds.{same}
use Rattle.typst_kinds.specs.declared.kind.SyntaxKind.TheVariants as kind
use Rattle.typst_lines.specs.Place.{passes}
use Rattle.typst_language.specs.Characters.{is_code_point, number_after}
use Rattle.typst_language.specs.Shape.{Seen}
use Rattle.typst_language.specs.Shape.Seen.{leaf_seen, inner_seen}
use Rattle.typst_markup.specs.declared.keys.Key.{Key}
use Rattle.typst_markup.specs.declared.keys.Key.TheVariants as key

-- ---- the key of a string

-- an escape: how many characters belong to it after its backslash, and the character that it stands
-- for, if it stands for one
pub record Escape : Type 0 where
  pub len : ℕ
  pub stands_for : Option ℕ

-- an escape with one more character
abbrev pub one_more : Escape → Escape
one_more e = record e { len = suc e.len }

-- the character that hexadecimal digits name
abbrev pub character : List ℕ → Option ℕ
character digits = if is_code_point digits then Some (number_after 16 0 digits) else None

-- hexadecimal digits, and a closing brace if one comes
abbrev pub in_braces : List ℕ → Escape
in_braces cs = record {
  len = if passes (λ c. c == 125) (slice_get cs (prefix_len is_ascii_hexdigit cs)) then prefix_len is_ascii_hexdigit cs + 1 else prefix_len is_ascii_hexdigit cs;
  stands_for = character (take (prefix_len is_ascii_hexdigit cs) cs);
}

-- an escape after `u`: a character in braces
abbrev pub code_escape : List ℕ → Escape
code_escape cs = if passes (λ c. c == 123) (slice_get cs 0) then one_more (in_braces (drop 1 cs)) else record { len = 0; stands_for = None }

-- what a character stands for after a backslash: a backslash, a quote, `n`, `r` and `t`
abbrev pub letter_escape : ℕ → Option ℕ
letter_escape c =
    if c == 92 then Some 92
    else (if c == 34 then Some 34
    else (if c == 110 then Some 10
    else (if c == 114 then Some 13
    else (if c == 116 then Some 9
    else None))))

-- the escape after a backslash
abbrev pub escape : List ℕ → Escape
escape [] = record { len = 0; stands_for = None }
escape (c ∷ cs) = if c == 117 then one_more (code_escape cs) else record { len = 1; stands_for = letter_escape c }

-- what is written for an escape; one that stands for nothing stays as it is
abbrev pub written : List ℕ → Escape → Option ℕ → List ℕ
written cs e (Some c) = encode_utf8 c
written cs e None = 92 ∷ encode_utf8_all (take e.len cs)

-- what is written for the escape that these characters begin with
abbrev pub escaped : List ℕ → Escape → List ℕ
escaped cs e = written cs e e.stands_for

-- what begins with a character: an escape if it is a backslash, or the character alone
abbrev pub begun : ℕ → List ℕ → Escape
begun c cs = if c == 92 then escape cs else record { len = 0; stands_for = Some c }

-- what is written for all characters but the first n
abbrev pub unescaped : ℕ → List ℕ → List ℕ
unescaped n [] = []
unescaped (suc n) (c ∷ cs) = unescaped n cs
unescaped zero (c ∷ cs) = escaped cs (begun c cs) ++ unescaped (begun c cs).len cs

-- characters without the last one
abbrev pub without_last : List ℕ → List ℕ
without_last [] = []
without_last (c ∷ []) = []
without_last (c ∷ d ∷ cs) = c ∷ without_last (d ∷ cs)

-- the text of a string without its quotes, with its escapes read
unfoldable pub string_key : List ℕ → List ℕ
string_key text = unescaped 0 (without_last (drop 1 (chars text)))

-- ---- what a node is as a key

-- what a node is as a key: a name, a string, or none
abbrev pub key_of_one : Seen → Key
key_of_one (leaf_seen k text) = if same kind.Ident k then key.Name text else (if same kind.Str k then key.Str (string_key text) else key.Other)
key_of_one (inner_seen k) = key.Other

-- what the first of several nodes is as a key: a name, a string, or none
abbrev pub key_of : List Seen → Key
key_of [] = key.Other
key_of (s ∷ ss) = key_of_one s
