use Rattle.typst_tree.proofs.Cited.{common_steps, arith}
use Rattle.typst_tree.proofs.AddedChildren.{adds_all}
use Rattle.typst_tree.proofs.Numbering.{nodes_at}
use Rattle.typst_tree.proofs.node.SyntaxNode.+len.Goals as goal

pub added_len-len-requires : goal.added_len-len-requires
added_len-len-requires t c = grind (arith, nodes_at)

pub added_len-loop-node-preserved : goal.added_len-loop-node-preserved
added_len-loop-node-preserved t c = grind (arith, common_steps, adds_all, nodes_at)
