use Rattle.typst_tree.proofs.Cited.{ap, ◌∙◌, left_above}
use Rattle.typst_tree.proofs.LeftRows.{left_pushed}
use Rattle.typst_tree.proofs.preorder.Row.keep_above.Goals as goal

pub returns-clause-left : goal.returns-clause-left
returns-clause-left c = ap left_above c.in_ok-push.ensures.items ∙ left_pushed c.args.above.now.items c.args.self
