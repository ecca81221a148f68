use Rattle.typst_names.proofs.Cited.{◌≡◌, ◌∙◌, [], length, ap, refl, arith, nat_tests}
use Rattle.typst_names.specs.RoleRows.{left, left_all, steps_all}
use Rattle.typst_names.proofs.LeftRoles.{left_pushed, none_left, steps_pushed}
use Rattle.typst_names.proofs.roles.push_row.Goals as goal

pub returns-then-is_empty-clause-left : goal.returns-then-is_empty-clause-left
returns-then-is_empty-clause-left c =
    let passed : length c.args.row.trees.now ≡ 0 = grind (arith, nat_tests, c.is_empty.ensures, c.if-is_empty.true) in
    let nothing : left c.args.row ≡ [] = none_left c.args.row passed in
    rw nothing refl

pub returns-clause-left : goal.returns-clause-left
returns-clause-left c = ap left_all c.in_ok-push.ensures.items ∙ left_pushed c.args.rows.now.items c.args.row

pub returns-clause-steps : goal.returns-clause-steps
returns-clause-steps c = omega (arith, ap steps_all c.in_ok-push.ensures.items, steps_pushed c.args.rows.now.items c.args.row)
