-- An edit of a text.
use Rattle.std.specs.Prelude.{ℕ, List, [], ◌++◌}
use Rattle.typst_lines.specs.Place.{Place}

-- an edit of a text: what is before the replaced stretch, the stretch, what takes its place, and
-- the rest
pub record TextReplacement : Type 0 where
  pub front : List ℕ
  pub old : List ℕ
  pub new : List ℕ
  pub rest : List ℕ

-- the text before the edit, and where reading it begins
abbrev pub text_before : TextReplacement → List ℕ
text_before edit = edit.front ++ (edit.old ++ edit.rest)

abbrev pub start_before : TextReplacement → Place
start_before edit = record { before = []; ahead = text_before edit }

-- the text after the edit, and where reading it begins
abbrev pub text_after : TextReplacement → List ℕ
text_after edit = edit.front ++ (edit.new ++ edit.rest)

abbrev pub start_after : TextReplacement → Place
start_after edit = record { before = []; ahead = text_after edit }

-- the edit of a text by its four parts
abbrev pub replacing : (front old new rest : List ℕ) → TextReplacement
replacing front old new rest = record { front = front; old = old; new = new; rest = rest }
