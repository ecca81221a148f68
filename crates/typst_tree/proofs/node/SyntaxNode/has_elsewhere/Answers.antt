use Rattle.typst_tree.proofs.Cited.{arith}
use Rattle.typst_tree.proofs.SpansAside.{trees_forest}
use Rattle.typst_tree.proofs.node.SyntaxNode.has_elsewhere.Goals as goal

pub have_others-requires : goal.have_others-requires
have_others-requires c = grind (arith, trees_forest)

pub returns : goal.returns
returns c = grind (arith, trees_forest)
