-- The names of labels and references.
use Rattle.std.specs.Prelude.{ℕ, Bool, not, ◌||◌, ◌&&◌, ◌==◌, List, length}
use Rattle.std.specs.List.{list_all}
use Rattle.typst_lines.specs.Classes.{CharClasses}
use Rattle.typst_lines.specs.Identifiers.{is_id_continue}
use Rattle.typst_lines.specs.Ends.{without_last}

-- The names of labels and references are made of what continues identifiers, colons and dots.
abbrev pub is_name : CharClasses → ℕ → Bool
is_name k c = is_id_continue k c || c == 58 || c == 46

-- The name of a reference doesn't end in a colon or a dot.
abbrev pub ref_name : List ℕ → List ℕ
ref_name cs = without_last (λ c. c == 58 || c == 46) cs

-- The name of a label has at least one character.
abbrev pub is_label_id : CharClasses → List ℕ → Bool
is_label_id k cs = not (length cs == 0) && list_all (is_name k) cs
