use Rattle.std.proofs.Common.{arith}
use Rattle.typst_tree.proofs.Branches.{room, until_here}
use Rattle.typst_tree.proofs.linked.LinkedNode.last_leaf.Goals as goal

pub last_leaf_in-requires : goal.last_leaf_in-requires
last_leaf_in-requires c = room c.args.self

pub returns-in_err-leaf : goal.returns-in_err-leaf
returns-in_err-leaf c = grind (arith, until_here)

pub returns : goal.returns
returns c = grind (arith, until_here)
