-- How far a link goes.
use Rattle.std.specs.Prelude.{ℕ, Bool, ◌||◌, ◌==◌, if◌then◌else◌, List, [], ◌∷◌, length, Option, Some, None}
use Rattle.std.specs.Char.{is_ascii_alphanumeric}
use Rattle.typst_lines.specs.Sets.{among}
use Rattle.typst_lines.specs.Ends.{without_last}

-- The signs of links beside brackets: ! # $ % & * + , - . / : ; = ? @ _ ~ and the apostrophe.
abbrev pub signs : List ℕ
signs = 33 ∷ 35 ∷ 36 ∷ 37 ∷ 38 ∷ 42 ∷ 43 ∷ 44 ∷ 45 ∷ 46 ∷ 47 ∷ 58 ∷ 59 ∷ 61 ∷ 63 ∷ 64 ∷ 95 ∷ 126 ∷ 39 ∷ []

-- The signs that a link doesn't end in: ! , . : ; ? and the apostrophe.
abbrev pub last_signs : List ℕ
last_signs = 33 ∷ 44 ∷ 46 ∷ 58 ∷ 59 ∷ 63 ∷ 39 ∷ []

-- A character of links that isn't a bracket.
abbrev pub is_plain : ℕ → Bool
is_plain c = is_ascii_alphanumeric c || among signs c

-- The closing brackets that are still to come, the innermost first, after a closing bracket;
-- nothing if it isn't the innermost.
abbrev pub closed : List ℕ → ℕ → Option (List ℕ)
closed [] c = None
closed (d ∷ awaited) c = if d == c then Some awaited else None

-- The closing brackets that are still to come after any character, or nothing if the link ends
-- before it.
abbrev pub after : List ℕ → ℕ → Option (List ℕ)
after awaited c =
    if c == 40 then Some (41 ∷ awaited)
    else (if c == 91 then Some (93 ∷ awaited)
    else (if c == 41 || c == 93 then closed awaited c
    else (if is_plain c then Some awaited else None)))

-- The longest front in which each character goes on with a link, and the brackets still to come.
abbrev pub front : List ℕ → List ℕ → List ℕ × List ℕ
front awaited [] = ([], awaited)
front awaited (c ∷ cs) = elim (after awaited c) [ None ↦ ([], awaited) | Some inside ↦ (let r = front inside cs in (c ∷ r.0, r.1)) ]

-- Characters without the signs at their end that a link doesn't end in.
abbrev pub without_last_signs : List ℕ → List ℕ
without_last_signs cs = without_last (among last_signs) cs

-- The link that characters begin with, and whether each of its brackets is closed.
unfoldable pub link_prefix : List ℕ → List ℕ × Bool
link_prefix cs = let r = front [] cs in (without_last_signs r.0, length r.1 == 0)
