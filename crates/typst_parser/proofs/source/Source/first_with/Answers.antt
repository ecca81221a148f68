use Rattle.std.proofs.Common.{arith}
use Rattle.typst_parser.proofs.Answered.{not-found, looked-for}
use Rattle.typst_parser.proofs.source.Source.first_with.Goals as goal

pub returns-then-ne : goal.returns-then-ne
returns-then-ne g c = grind (arith, not-found)

pub returns-in_err-top : goal.returns-in_err-top
returns-in_err-top g c = grind (arith, looked-for)

pub returns : goal.returns
returns g c = grind (arith, looked-for)
