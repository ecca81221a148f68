use Rattle.std.proofs.Common.{arith}
use Rattle.typst_lines.proofs.Alike.{end-from}
use Rattle.typst_lines.proofs.lines.shared_end_len.Goals as goal

pub returns : goal.returns
returns c = grind (arith, end-from)
