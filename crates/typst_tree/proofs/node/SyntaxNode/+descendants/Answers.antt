use Rattle.typst_tree.proofs.Cited.{common_steps, arith}
use Rattle.typst_tree.proofs.AddedChildren.{adds_all}
use Rattle.typst_tree.proofs.Numbering.{nodes_at}
use Rattle.typst_tree.proofs.node.SyntaxNode.+descendants.Goals as goal

pub added_descendants-descendants-requires : goal.added_descendants-descendants-requires
added_descendants-descendants-requires t c = grind (arith, nodes_at)

pub added_descendants-loop-node-preserved : goal.added_descendants-loop-node-preserved
added_descendants-loop-node-preserved t c = grind (arith, common_steps, adds_all, nodes_at)
