use Rattle.typst_lexer.proofs.Cited.{arith, encodes-chars}
use Rattle.typst_lexer.proofs.Suffixes.{start-of}
use Rattle.typst_lexer.proofs.TokenTexts.{fault-is}
use Rattle.typst_lexer.proofs.numbers.number_node.Goals as goal

pub returns : goal.returns
returns c = grind (arith, start-of, fault-is, encodes-chars)
