-- What is left of a search for fixes (for private clauses).
use Rattle.std.specs.Prelude.{ℕ, ◌+◌, List, [], ◌∷◌, ◌++◌, option_map}
use Rattle.std.specs.declared.ops.Range.{Range}
use Rattle.typst_tree.specs.Tree.{Forest, none, more, forest}
use Rattle.typst_names.specs.Around.{standing}
use Rattle.typst_fixes.specs.Fixes.{Made, row}
use Rattle.typst_fixes.specs.Fixes as spec
use Rattle.typst_fixes.specs.declared.fixes.Row.{Row}
use Rattle.typst_fixes.specs.declared.fixes.Site.{Site}

-- a node with what is around it, by what it borrows
abbrev pub around : Site → spec.Site
around s = record { node = standing s.node; parent = option_map standing s.parent; before = option_map standing s.before; behind = forest s.behind.now }

-- the fixes that are left in a row
abbrev pub left : Range ℕ → Row → List Made
left w r = row w (option_map standing r.parent) (option_map standing r.before) r.start (forest r.trees.now)

-- the fixes that are left in rows, of which the last one comes first
abbrev pub left_all : Range ℕ → List Row → List Made
left_all w [] = []
left_all w (r ∷ rs) = left_all w rs ++ left w r

-- how many steps some trees take at most
abbrev pub steps : Forest → ℕ
steps none = 0
steps (more h ks r) = 2 + (steps ks + steps r)

-- how many steps a row takes at most
abbrev pub steps_left : Row → ℕ
steps_left r = 1 + steps (forest r.trees.now)

-- how many steps some rows take at most
abbrev pub steps_all : List Row → ℕ
steps_all [] = 0
steps_all (r ∷ rs) = steps_all rs + steps_left r
