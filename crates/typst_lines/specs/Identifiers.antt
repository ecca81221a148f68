-- Identifiers, by a class value.
use Rattle.std.specs.Prelude.{ℕ, Bool, false, ◌||◌, ◌&&◌, ◌==◌, List, [], ◌∷◌}
use Rattle.std.specs.List.{list_all}
use Rattle.typst_lines.specs.Classes.{CharClasses}

-- An identifier starts with a character of the class or an underscore.
abbrev pub is_id_start : CharClasses → ℕ → Bool
is_id_start k c = k.xid_start c || c == 95

-- An identifier goes on with characters of the class, underscores and hyphens.
abbrev pub is_id_continue : CharClasses → ℕ → Bool
is_id_continue k c = k.xid_continue c || c == 95 || c == 45

-- A text is an identifier: a character that starts one, and then characters that continue one.
abbrev pub is_ident : CharClasses → List ℕ → Bool
is_ident k [] = false
is_ident k (c ∷ cs) = is_id_start k c && list_all (is_id_continue k) cs
