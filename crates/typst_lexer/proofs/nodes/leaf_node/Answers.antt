use Rattle.typst_lexer.proofs.Cited.{arith, encodes-chars}
use Rattle.typst_lexer.proofs.Fronts.{front-bytes}
use Rattle.typst_lexer.proofs.TokenTexts.{leaf-is}
use Rattle.typst_lexer.proofs.nodes.leaf_node.Goals as goal

pub front_leaf-requires-clause-front : goal.front_leaf-requires-clause-front
front_leaf-requires-clause-front c = front-bytes c.args.text.now c.args.rest.now c.utf8.text c.utf8.rest c.requires.front

pub returns : goal.returns
returns c = grind (arith, encodes-chars, leaf-is)
