use Rattle.std.proofs.Common.{append-nil, arith}
use Rattle.typst_tree.proofs.LeftRows.{nodes_of_walk}
use Rattle.typst_tree.proofs.preorder.Preorder.new.Goals as goal

pub returns-clause-nodes : goal.returns-clause-nodes
returns-clause-nodes c = grind (arith, append-nil, nodes_of_walk)
