-- What is left of a search for names (for private clauses).
use Rattle.std.specs.Prelude.{ℕ, ◌+◌, List, [], ◌∷◌, ◌++◌}
use Rattle.typst_tree.specs.Tree.{Forest, none, more, forest}
use Rattle.typst_names.specs.Names.{names_in}
use Rattle.typst_names.specs.declared.scopes.Name.{Name}
use Rattle.typst_names.specs.declared.scopes.Row.{Row}

-- the names that are left in a row
abbrev pub left : Row → List Name
left r = names_in r.part r.until r.start (forest r.trees.now)

-- the names that are left in rows, of which the last one comes first
abbrev pub left_all : List Row → List Name
left_all [] = []
left_all (r ∷ rs) = left_all rs ++ left r

-- how many steps some trees take at most, as three parts may be taken below each
abbrev pub steps : Forest → ℕ
steps none = 0
steps (more h ks r) = 4 + (steps ks + (steps ks + (steps ks + steps r)))

-- how many steps a row takes at most
abbrev pub steps_left : Row → ℕ
steps_left r = 1 + steps (forest r.trees.now)

-- how many steps some rows take at most
abbrev pub steps_all : List Row → ℕ
steps_all [] = 0
steps_all (r ∷ rs) = steps_all rs + steps_left r
