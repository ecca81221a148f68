-- What is left of a walk in preorder (for private clauses).
use Rattle.std.specs.Prelude.{◌≡◌, ◌<◌, true, List, [], ◌∷◌, ◌++◌, length, All}
use Rattle.typst_tree.specs.Tree.{forest}
use Rattle.typst_tree.specs.Preorder.{Visited, row, is_marked}
use Rattle.typst_tree.specs.declared.preorder.Row.{Row}

-- the visits that are left in a row
abbrev pub left : Row → List Visited
left r = row r.offset r.depth (forest r.trees.now)

-- the visits that are left in the rows above, of which the last one comes first
abbrev pub left_above : List Row → List Visited
left_above [] = []
left_above (r ∷ rs) = left_above rs ++ left r

-- a row has trees left
abbrev pub HasTrees : Row → Type 0
HasTrees r = 0 < length r.trees.now

-- each row above has trees left, and the row of the next node has none only at the walk's end
pub record IsReady (here : Row) (above : List Row) : Type 0 where
  pub ends : length here.trees.now ≡ 0 → length above ≡ 0
  pub have_trees : All HasTrees above

-- the next visit that is left, if there is one, is of a marked node
abbrev pub IsAtMarked : List Visited → Type 0
IsAtMarked [] = Unit {0}
IsAtMarked (v ∷ vs) = is_marked v ≡ true
