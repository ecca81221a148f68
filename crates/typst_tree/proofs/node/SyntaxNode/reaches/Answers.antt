use Rattle.std.proofs.Common.{arith}
use Rattle.typst_tree.proofs.PutAt.{reaches_there, reaches_from}
use Rattle.typst_tree.proofs.node.SyntaxNode.reaches.Goals as goal

pub returns-in-None : goal.returns-in-None
returns-in-None c = grind (arith, reaches_there)

pub returns-in-Some : goal.returns-in-Some
returns-in-Some c = grind (arith, reaches_from, reaches_there)
