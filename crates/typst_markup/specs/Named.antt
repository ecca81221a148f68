-- Named arguments.
use Rattle.std.specs.Prelude.{ℕ, if◌then◌else◌, List, ◌++◌, Option, Some, None, codes}
use Rattle.typst_language.specs.Shape.{NodeChange}
use Rattle.typst_language.specs.Shape.NodeChange.{stays, turns_wrong}
use Rattle.typst_markup.specs.declared.keys.Key.{Key}
use Rattle.typst_markup.specs.declared.keys.Key.TheVariants as key
use Rattle.typst_kinds.specs.SeenNames.{has_name, with_name}

-- the name of an argument becomes an error if it was seen
abbrev pub when_named : List (List ℕ) → List ℕ → NodeChange
when_named names name = if has_name names name then turns_wrong (codes "duplicate argument: " ++ name) else stays

-- the names that were seen, with that of an argument, if it has one
abbrev pub with_argument : List (List ℕ) → Option Key → List (List ℕ)
with_argument names (Some (key.Name name)) = with_name names name
with_argument names _ = names
