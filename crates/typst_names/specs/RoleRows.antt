-- What is left of a walk for roles. Public clauses name none of it.
use Rattle.std.specs.Prelude.{ℕ, ◌+◌, List, [], ◌∷◌, ◌++◌, Option}
use Rattle.typst_tree.specs.Tree.{Forest, none, more, forest}
use Rattle.typst_names.specs.Roles.{row}
use Rattle.typst_names.specs.declared.contexts.Role.{Role}
use Rattle.typst_names.specs.declared.roles.Row.{Row}

-- what is left of a row
abbrev pub left : Row → List (Option Role)
left r = row r.context (forest r.trees.now)

-- what is left of rows, of which the last one comes first
abbrev pub left_all : List Row → List (Option Role)
left_all [] = []
left_all (r ∷ rs) = left_all rs ++ left r

-- how many steps some trees take at most
abbrev pub steps : Forest → ℕ
steps none = 0
steps (more h ks r) = 2 + (steps ks + steps r)

-- how many steps a row takes at most
abbrev pub steps_left : Row → ℕ
steps_left r = 1 + steps (forest r.trees.now)

abbrev pub steps_all : List Row → ℕ
steps_all [] = 0
steps_all (r ∷ rs) = steps_all rs + steps_left r
