use Rattle.std.proofs.Common.{arith}
use Rattle.typst_lexer.proofs.Loops.{pushed-two}
use Rattle.typst_lexer.proofs.Tags.{tick-chars}
use Rattle.typst_lexer.proofs.raw.two_delimiters.Goals as goal

pub returns : goal.returns
returns c = grind (arith, pushed-two, tick-chars)
