-- An edit of lines that is not settled yet.
use Rattle.std.specs.Prelude.{◌≡◌, ℕ, ◌+◌, ◌-◌, ◌<◌, ◌≤◌, List, [], ◌∷◌, ◌++◌, length, map, take, drop, slice_range, All}
use Rattle.std.specs.Str.{IsCharBoundary}
use Rattle.typst_lines.specs.Edited.{moved_line, units_at}
use Rattle.typst_lines.specs.Lines.{line_table}
use Rattle.typst_lines.specs.declared.lines.Line.{Line}
use Rattle.typst_lines.specs.declared.lines.Stretch.{Stretch}

-- the texts before and after an edit
pub record Texts : Type 0 where
  pub before : List ℕ
  pub after : List ℕ

-- an edited text with the removed one in the place of the stretch again
abbrev pub put_back : List ℕ → List ℕ → Stretch → List ℕ
put_back text removed s = take s.start text ++ removed ++ drop s.new_end text

-- the removed text can be put back without a request for memory: the stretch lies in the text, which has
-- room for both
pub record HasRoom (text removed : List ℕ) (capacity : ℕ) (s : Stretch) : Type 0 where
  pub start : IsCharBoundary text s.start
  pub end : IsCharBoundary text s.new_end
  pub ordered : s.start ≤ s.new_end
  pub room : length text + length removed ≤ capacity

-- the lines of the table before the edit that start after the stretch
abbrev pub lines_behind : Stretch → List Line → List Line
lines_behind s lines = slice_range lines s.behind s.known

-- the table of the edited text: the lines that stay, those that start in the stretch now, and those
-- after it, moved
abbrev pub settled_lines : Stretch → List Line → List Line
settled_lines s lines =
    take s.kept lines ++ (drop s.known lines ++ map (moved_line s.end s.new_end (units_at (lines_behind s lines)) s.utf16_idx) (lines_behind s lines))

-- the lines hold the table of the text before the edit, and that of the one after it
pub record IsPending (before after : List ℕ) (lines : List Line) (s : Stretch) : Type 0 where
  pub table : take s.known lines ≡ line_table before
  pub settled : settled_lines s lines ≡ line_table after
  pub kept : s.kept ≤ s.behind
  pub behind : s.behind ≤ s.known
  pub known : s.known ≤ length lines

-- all lines start at or before a byte
abbrev pub UpTo : ℕ → List Line → Type 0
UpTo b [] = Unit {0}
UpTo b (l ∷ ls) = (l.byte_idx ≤ b) × UpTo b ls

-- the first line starts after a byte and so many units, if there is one
abbrev pub IsNext : ℕ → ℕ → List Line → Type 0
IsNext b u [] = Unit {0}
IsNext b u (l ∷ ls) = (b < l.byte_idx) × (u ≡ l.utf16_idx)

-- the lines of `starts` up to a byte were added to the old ones, and so many units are before the
-- next
pub record AddsStarts (starts : List Line) (b u : ℕ) (old new : List Line) : Type 0 where
  pub fresh : List Line
  pub next : List Line
  pub new_is : new ≡ old ++ fresh
  pub starts_are : starts ≡ fresh ++ next
  pub upto : UpTo b fresh
  pub next_is : IsNext b u next
