use Rattle.std.proofs.Common.{arith}
use Rattle.typst_lexer.proofs.lexer.named_argument.Goals as goal

pub returns : goal.returns
returns g c = grind arith
