use Rattle.typst_names.proofs.Cited.{◌≡◌, ◌∙◌, [], length, ap, sym, refl, arith, nat_tests, left, left_all, steps_all}
use Rattle.typst_names.proofs.LeftNames.{left_pushed, none_left, nothing_left, steps_pushed}
use Rattle.typst_names.proofs.scopes.push_row.Goals as goal
use Rattle.typst_names.proofs.scopes.push_row.Goals.{then-is_empty-via-then-is_empty, then-is_empty-via-else-is_empty+then-is_nothing}

pub returns-then-is_empty-clause-left : goal.returns-then-is_empty-clause-left
returns-then-is_empty-clause-left c =
    let nothing : left c.args.row ≡ [] = elim c.then-is_empty.branch [
      | then-is_empty-via-then-is_empty w ↦
          let passed : length c.args.row.trees.now ≡ 0 = grind (arith, nat_tests, c.is_empty.ensures, w.if-is_empty.true) in
          none_left c.args.row passed
      | then-is_empty-via-else-is_empty+then-is_nothing w ↦ nothing_left c.args.row (sym w.is_nothing.ensures ∙ w.if-is_nothing.true)
    ] in
    rw nothing refl

pub returns-clause-left : goal.returns-clause-left
returns-clause-left c = ap left_all c.in_ok-push.ensures.items ∙ left_pushed c.args.rows.now.items c.args.row

pub returns-clause-steps : goal.returns-clause-steps
returns-clause-steps c = omega (arith, ap steps_all c.in_ok-push.ensures.items, steps_pushed c.args.rows.now.items c.args.row)
