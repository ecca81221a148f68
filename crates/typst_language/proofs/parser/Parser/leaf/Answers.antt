use Rattle.typst_language.proofs.Cited.{common_steps, arith}
use Rattle.typst_language.proofs.parser.Parser.leaf.Goals as goal

pub leaf_node-requires-clause-front : goal.leaf_node-requires-clause-front
leaf_node-requires-clause-front c = grind (arith, common_steps)

pub returns : goal.returns
returns c = grind arith
