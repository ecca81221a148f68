use Rattle.typst_tree.proofs.Cited.{arith, nat_tests}
use Rattle.typst_tree.proofs.LeftRows.{popped}
use Rattle.typst_tree.proofs.preorder.Row.or_above.Goals as goal

pub returns-in-Some-clause-left : goal.returns-in-Some-clause-left
returns-in-Some-clause-left c = grind (arith, nat_tests, popped)
