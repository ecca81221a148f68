use Rattle.std.proofs.Common.{sym}
use Rattle.typst_protocol.proofs.Numbers.{number-none}
use Rattle.typst_protocol.proofs.frames.header.number.Goals as goal

pub returns-in-Err : goal.returns-in-Err
returns-in-Err c = sym (number-none c.args.digits.now c.in-Err.ensures.cases.0)
