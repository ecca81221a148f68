use Rattle.typst_tree.proofs.Cited.{arith, nat_tests}
use Rattle.typst_tree.proofs.PassesOver.{no_leaf}
use Rattle.typst_tree.proofs.search.Search.passes_over.Goals as goal

pub returns-in-LeafFrom : goal.returns-in-LeafFrom
returns-in-LeafFrom c = grind (arith, no_leaf, nat_tests)
