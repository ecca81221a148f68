use Rattle.std.proofs.Common.{arith}
use Rattle.typst_tree.proofs.Branches.{above_is, behind_above, no_parent}
use Rattle.typst_tree.proofs.linked.LinkedNode.next_sibling.Goals as goal

pub returns-in_err-above : goal.returns-in_err-above
returns-in_err-above c = grind (arith, no_parent)

pub returns : goal.returns
returns c = grind (arith, behind_above, above_is)
