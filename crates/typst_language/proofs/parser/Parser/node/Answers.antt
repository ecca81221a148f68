use Rattle.std.proofs.Common.{arith}
use Rattle.typst_language.proofs.parser.Parser.node.Goals as goal

pub returns : goal.returns
returns g c k same = grind arith
