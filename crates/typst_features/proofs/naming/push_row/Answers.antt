use Rattle.typst_features.proofs.Cited.{◌∙◌, ap, arith, left_all, steps_all}
use Rattle.typst_features.proofs.MentionsFound.{left_pushed, steps_pushed}
use Rattle.typst_features.proofs.naming.push_row.Goals as goal

pub returns-clause-left : goal.returns-clause-left
returns-clause-left c = ap left_all c.in_ok-push.ensures.items ∙ left_pushed c.args.rows.now.items c.args.row

pub returns-clause-steps : goal.returns-clause-steps
returns-clause-steps c = omega (arith, ap steps_all c.in_ok-push.ensures.items, steps_pushed c.args.rows.now.items c.args.row)
