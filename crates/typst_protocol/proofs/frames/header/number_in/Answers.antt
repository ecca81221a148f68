use Rattle.std.proofs.Common.{arith}
use Rattle.typst_protocol.proofs.Numbers.{number-parsed}
use Rattle.typst_protocol.proofs.frames.header.number_in.Goals as goal

pub returns-in-Ok : goal.returns-in-Ok
returns-in-Ok c = grind (arith, number-parsed)

pub returns-in-Err : goal.returns-in-Err
returns-in-Err c = grind (arith, number-parsed)
