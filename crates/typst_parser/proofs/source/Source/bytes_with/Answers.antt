use Rattle.std.proofs.Common.{arith}
use Rattle.typst_parser.proofs.Answered.{part-given}
use Rattle.typst_parser.proofs.source.Source.bytes_with.Goals as goal

pub overflow_add-result : goal.overflow_add-result
overflow_add-result g c = omega arith

pub overflow_add-result-2 : goal.overflow_add-result-2
overflow_add-result-2 g c = omega arith

pub returns : goal.returns
returns g c = grind (arith, part-given)
