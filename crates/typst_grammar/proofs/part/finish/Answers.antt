use Rattle.std.proofs.Common.{arith}
use Rattle.typst_grammar.proofs.AtLevels.{log-is}
use Rattle.typst_grammar.proofs.part.finish.Goals as goal

pub returns : goal.returns
returns c = grind (arith, log-is)
