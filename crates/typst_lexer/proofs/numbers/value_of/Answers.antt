use Rattle.typst_lexer.proofs.Cited.{arith, ahead-text}
use Rattle.typst_lexer.proofs.Suffixes.{second-on, value-is}
use Rattle.typst_lexer.proofs.numbers.value_of.Goals as goal

pub returns-in-Some : goal.returns-in-Some
returns-in-Some c = grind (arith, second-on, ahead-text, value-is)

pub returns-in-None : goal.returns-in-None
returns-in-None c = grind (arith, second-on, ahead-text, value-is)
