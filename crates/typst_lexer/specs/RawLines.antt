-- The lines of a raw text, and what of them is text and what is trimmed.
use Rattle.std.specs.Prelude.{ℕ, ◌-◌, Bool, not, ◌==◌, ◌&&◌, if◌then◌else◌, min, List, [], ◌∷◌, ◌++◌, length, take, drop, reverse, find, slice_get, encode_utf8_all}
use Rattle.std.specs.Char.{is_whitespace}
use Rattle.std.specs.List.{list_all, prefix_len}
use Rattle.typst_lines.specs.Classes.{in_line}
use Rattle.typst_kinds.specs.declared.kind.SyntaxKind.{SyntaxKind}
use Rattle.typst_kinds.specs.declared.kind.SyntaxKind.TheVariants as kind
use Rattle.typst_lines.specs.Newline.{stretches, line_ends}
use Rattle.typst_lines.specs.Place.{Place, passes}
use Rattle.typst_tree.specs.Tree.{Tree, leaf_of}

-- A leaf of some characters.
abbrev pub leaf : SyntaxKind → List ℕ → Tree
leaf k cs = leaf_of k (encode_utf8_all cs)

-- A leaf of what is trimmed, if that is anything.
abbrev pub trimmed : List ℕ → List Tree
trimmed [] = []
trimmed (c ∷ cs) = leaf kind.RawTrimmed (c ∷ cs) ∷ []

-- A line, and the line end before it.
pub record RawLine : Type 0 where
  pub ending : List ℕ
  pub line : List ℕ

-- Lines, each with the line end before it.
abbrev pub paired : List (List ℕ) → List (List ℕ) → List RawLine
paired [] lines = []
paired (e ∷ endings) [] = []
paired (e ∷ endings) (line ∷ lines) = record { ending = e; line = line } ∷ paired endings lines

-- The first line of characters.
abbrev pub first_line : List ℕ → List ℕ
first_line cs = take (prefix_len in_line cs) cs

-- The lines after the first, each with the line end before it.
unfoldable pub later_lines : List ℕ → List RawLine
later_lines cs = paired (line_ends cs) (drop 1 (stretches cs))

-- A line of only whitespace.
abbrev pub is_blank : List ℕ → Bool
is_blank line = list_all is_whitespace line

-- How many whitespace characters a line begins with.
abbrev pub indent : List ℕ → ℕ
indent line = prefix_len is_whitespace line

-- The last of a line and those after it.
abbrev pub last_of : RawLine → List RawLine → RawLine
last_of r [] = r
last_of r (s ∷ rs) = last_of s rs

-- The last line of characters. If it is also the first, no line end is before it.
unfoldable pub last_raw_line : List ℕ → RawLine
last_raw_line cs = last_of (record { ending = []; line = first_line cs }) (later_lines cs)

-- The least of n and the indents of the lines that aren't blank.
abbrev pub least_indent : ℕ → List RawLine → ℕ
least_indent n [] = n
least_indent n (r ∷ rs) = least_indent (if is_blank r.line then n else min n (indent r.line)) rs

-- By how much lines are indented: the least indent of the last line and of the lines after the
-- first that aren't blank.
unfoldable pub dedent : List ℕ → ℕ
dedent cs = least_indent (indent (last_raw_line cs).line) (later_lines cs)

-- A backtick.
abbrev pub is_tick : ℕ → Bool
is_tick c = c == 96

-- A line ends in a space, and its last character that isn't whitespace is a backtick.
abbrev pub has_spare_space : List ℕ → Bool
has_spare_space line = passes (λ c. c == 32) (slice_get (reverse line) 0) && passes is_tick (find (λ c. not (is_whitespace c)) (reverse line))

-- What is trimmed at the end: a blank last line with the line end before it, or a spare space.
abbrev pub end_of : RawLine → List ℕ
end_of r = if is_blank r.line then r.ending ++ r.line else (if has_spare_space r.line then 32 ∷ [] else [])

-- What is trimmed at the end of the characters between two delimiters.
unfoldable pub closing : List ℕ → List ℕ
closing cs = end_of (last_raw_line cs)

-- The characters before what is trimmed at the end.
unfoldable pub front : List ℕ → List ℕ
front cs = take (length cs - length (closing cs)) cs

-- The characters from a place to a later one.
abbrev pub between : Place → Place → List ℕ
between p q = take (length p.ahead - length q.ahead) p.ahead

-- The leaves of lines: of each the line end and up to a given number of characters are trimmed, and the rest
-- is text. What was held back before them is trimmed with the first, and the closing is trimmed.
abbrev pub line_leaves : ℕ → List ℕ → List RawLine → List ℕ → List Tree
line_leaves d held [] closing = trimmed (held ++ closing)
line_leaves d held (r ∷ rs) closing = leaf kind.RawTrimmed (held ++ (r.ending ++ take d r.line)) ∷ (leaf kind.Text (drop d r.line) ∷ line_leaves d [] rs closing)

-- The leaves of a first line that isn't blank: one space at its start is trimmed.
abbrev pub first_leaves : List ℕ → List Tree
first_leaves [] = leaf kind.Text [] ∷ []
first_leaves (c ∷ cs) = if c == 32 then leaf kind.RawTrimmed (c ∷ []) ∷ (leaf kind.Text cs ∷ []) else leaf kind.Text (c ∷ cs) ∷ []

-- The leaves of a first line and those after it. A blank first line is held back.
abbrev pub block_of : ℕ → List ℕ → List RawLine → List ℕ → List Tree
block_of d first rs closing = if is_blank first then line_leaves d first rs closing else first_leaves first ++ line_leaves d [] rs closing

-- The leaves between three or more backticks on each side, after the tag.
unfoldable pub block_leaves : List ℕ → List Tree
block_leaves cs = block_of (dedent cs) (first_line (front cs)) (later_lines (front cs)) (closing cs)

-- The leaves between single backticks: lines as they are, and line ends.
unfoldable pub inline_leaves : List ℕ → List Tree
inline_leaves cs = leaf kind.Text (first_line cs) ∷ line_leaves 0 [] (later_lines cs) []
