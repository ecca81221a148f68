-- What is left of a search for mentions (for private clauses).
use Rattle.std.specs.Prelude.{ℕ, ◌+◌, List, [], ◌∷◌, ◌++◌}
use Rattle.typst_tree.specs.Tree.{Forest, none, more, forest}
use Rattle.typst_features.specs.Labels.{Mentioned, row}
use Rattle.typst_features.specs.declared.naming.Row.{Row}

-- the mentions that are left in a row
abbrev pub left : Row → List Mentioned
left r = row r.in_markup r.start (forest r.trees.now)

-- the mentions that are left in rows, of which the last one comes first
abbrev pub left_all : List Row → List Mentioned
left_all [] = []
left_all (r ∷ rs) = left_all rs ++ left r

-- how many steps some trees take at most
abbrev pub steps : Forest → ℕ
steps none = 0
steps (more h ks r) = 2 + (steps ks + steps r)

-- how many steps a row takes at most
abbrev pub steps_left : Row → ℕ
steps_left r = 1 + steps (forest r.trees.now)

-- how many steps some rows take at most
abbrev pub steps_all : List Row → ℕ
steps_all [] = 0
steps_all (r ∷ rs) = steps_all rs + steps_left r
