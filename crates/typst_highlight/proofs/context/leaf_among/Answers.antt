use Rattle.std.proofs.Common.{arith}
use Rattle.typst_highlight.proofs.FirstLeaves.{leaf_past}
use Rattle.typst_highlight.proofs.context.leaf_among.Goals as goal

pub loop-node-preserved : goal.loop-node-preserved
loop-node-preserved c = grind (arith, leaf_past)
