use Rattle.std.proofs.Common.{arith}
use Rattle.typst_parser.proofs.Answered.{same-held}
use Rattle.typst_parser.proofs.source.Source.try_clone.Goals as goal

pub returns : goal.returns
returns g c = grind (arith, same-held)
