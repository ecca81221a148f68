use Rattle.std.proofs.Common.{arith}
use Rattle.typst_tree.proofs.NodesOfStretch.{node_here}
use Rattle.typst_tree.proofs.linked.LinkedNode.range.Goals as goal

pub returns-clause-end : goal.returns-clause-end
returns-clause-end c = grind (arith, node_here)
