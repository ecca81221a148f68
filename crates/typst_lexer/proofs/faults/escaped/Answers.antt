use Rattle.std.proofs.Common.{arith}
use Rattle.typst_lexer.proofs.TokenTexts.{thrice}
use Rattle.typst_lexer.proofs.faults.escaped.Goals as goal

pub returns : goal.returns
returns c = grind (arith, thrice)
