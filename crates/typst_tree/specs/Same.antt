-- Whether two trees are the same, spans aside, as a test.
use Rattle.std.specs.Prelude.{ℕ, ◌+◌, ◌==◌, Bool, true, false, ◌&&◌, List, [], ◌∷◌, if◌then◌else◌}
use base.Stored.{Gv, gnil, gnum, gcons}
use Rattle.typst_tree.specs.Tree.{Tree, tree_code, bare}

-- whether two codes are equal
abbrev pub same_code : Gv → Gv → Bool
same_code gnil gnil = true
same_code gnil (gnum n) = false
same_code gnil (gcons a b) = false
same_code (gnum n) gnil = false
same_code (gnum n) (gnum m) = n == m
same_code (gnum n) (gcons a b) = false
same_code (gcons a b) gnil = false
same_code (gcons a b) (gnum n) = false
same_code (gcons a b) (gcons c d) = same_code a c && same_code b d

-- whether two trees are the same, spans aside
unfoldable pub same_tree : Tree → Tree → Bool
same_tree t u = same_code (tree_code.code (bare t)) (tree_code.code (bare u))

-- how many trees the lists begin with that are the same in both
abbrev pub front : List Tree → List Tree → ℕ
front [] ys = 0
front (x ∷ xs) [] = 0
front (x ∷ xs) (y ∷ ys) = if same_tree x y then front xs ys + 1 else 0
