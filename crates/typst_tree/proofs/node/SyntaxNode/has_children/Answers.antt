use Rattle.typst_tree.proofs.Cited.{arith, nat_tests}
use Rattle.typst_tree.proofs.SpansAside.{trees_forest}
use Rattle.typst_tree.proofs.node.SyntaxNode.has_children.Goals as goal

pub returns : goal.returns
returns c = grind (arith, nat_tests, trees_forest)
