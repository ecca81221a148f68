use Rattle.std.proofs.Common.{arith}
use Rattle.typst_tree.proofs.Rows.{prior}
use Rattle.typst_tree.proofs.order.summed_back_to.Goals as goal

pub overflow_sub-at : goal.overflow_sub-at
overflow_sub-at c = grind (arith, prior)

pub overflow_sub-begin : goal.overflow_sub-begin
overflow_sub-begin c = grind (arith, prior)

pub loop-i-preserved : goal.loop-i-preserved
loop-i-preserved c = grind (arith, prior)
