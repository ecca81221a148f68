use Rattle.typst_tree.proofs.Branches.{above_is, no_parent}
use Rattle.typst_tree.proofs.linked.LinkedNode.parent.Goals as goal

pub returns-in-None : goal.returns-in-None
returns-in-None c = no_parent c.args.self c.in-None.ensures

pub returns-in-Some : goal.returns-in-Some
returns-in-Some c = above_is c.args.self c.in-Some.above c.in-Some.ensures
