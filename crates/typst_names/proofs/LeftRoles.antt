-- What is left of a walk for roles, row by row.
use Rattle.typst_names.proofs.Cited.{◌≡◌, ◌+◌, List, [], ◌∷◌, ◌++◌, length, Option, refl, ap, sym, ◌∙◌, arith, append_assoc, append-nil, Tree, forest, row, Role}
use Rattle.typst_names.specs.RoleRows.{left, left_all, steps_all, steps_left}
use Rattle.typst_names.specs.declared.contexts.Context.{Context}
use Rattle.typst_names.specs.declared.roles.Row.{Row}

none_of : (c : Context) (ts : List Tree) → length ts ≡ 0 → row c (forest ts) ≡ []
none_of c [] e = refl
none_of c (t ∷ ts) e = absurd (omega (arith, e))

-- where no trees are there are no roles
pub none_left : (r : Row) → length r.trees.now ≡ 0 → left r ≡ []
none_left r e = none_of r.context r.trees.now e

-- the last row comes first
pub left_pushed : (rows : List Row) (r : Row) → left_all (rows ++ r ∷ []) ≡ left r ++ left_all rows
left_pushed [] r = sym (append-nil (left r))
left_pushed (x ∷ rows) r = ap (λ ns. ns ++ left x) (left_pushed rows r) ∙ append_assoc (left r) (left_all rows) (left x)

pub steps_pushed : (rows : List Row) (r : Row) → steps_all (rows ++ r ∷ []) ≡ steps_left r + steps_all rows
steps_pushed [] r = omega arith
steps_pushed (x ∷ rows) r = omega (arith, steps_pushed rows r)

-- a node's own role and the rows below and after it are what its row has
pub joined : (own a b found all : List (Option Role)) → (found ++ own) ++ (a ++ (b ++ all)) ≡ found ++ ((own ++ (a ++ b)) ++ all)
joined own a b found all = simp append_assoc
