use Rattle.typst_tree.specs.Tree.{nodes}
use Rattle.typst_tree.proofs.order.+first_in_order.Given as goal

abbrev pub decreases-first_in_order : goal.decreases-first_in_order
decreases-first_in_order l = nodes l.node.now
