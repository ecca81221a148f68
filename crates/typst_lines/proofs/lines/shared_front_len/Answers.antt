use Rattle.std.proofs.Common.{arith}
use Rattle.typst_lines.proofs.Alike.{front-from}
use Rattle.typst_lines.proofs.lines.shared_front_len.Goals as goal

pub returns : goal.returns
returns c = grind (arith, front-from)
