use Rattle.typst_names.proofs.Cited.{◌≡◌, ◌++◌, roles}
use Rattle.typst_names.specs.RoleRows.{left_all, steps_all}
use Rattle.typst_names.proofs.roles.name_roles.Given as goal

abbrev pub invariant-loop-row : goal.invariant-loop-row
invariant-loop-row l = l.found.items ++ left_all l.rows.items ≡ roles l.root

abbrev pub decreases-loop-row : goal.decreases-loop-row
decreases-loop-row l = steps_all l.rows.items
