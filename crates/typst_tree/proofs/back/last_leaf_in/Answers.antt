use Rattle.typst_tree.proofs.Cited.{arith}
use Rattle.typst_tree.proofs.LastLeaf.{last_none}
use Rattle.typst_tree.proofs.back.last_leaf_in.Goals as goal

pub returns-then-before-number-clause-number : goal.returns-then-before-number-clause-number
returns-then-before-number-clause-number c = grind (arith, last_none)
