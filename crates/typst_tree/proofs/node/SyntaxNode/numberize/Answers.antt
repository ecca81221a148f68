use Rattle.std.proofs.Common.{arith}
use Rattle.typst_tree.proofs.NumbersInOrder.{numbered_is, numbers_in_order}
use Rattle.typst_tree.proofs.node.SyntaxNode.numberize.Goals as goal

pub returns-clause-ordered : goal.returns-clause-ordered
returns-clause-ordered c = grind (arith, numbered_is, numbers_in_order)
