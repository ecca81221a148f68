use Rattle.typst_tree.proofs.Cited.{◌∙◌, linked}
use Rattle.typst_tree.proofs.FindsOwnSpan.{finds_own}
use Rattle.typst_tree.proofs.linked.LinkedNode.find.Goals as goal

pub returns-clause-own : goal.returns-clause-own
returns-clause-own c = λ i t d g e. c.first.ensures ∙ finds_own c.args.span (linked c.args.self) i t d g e
