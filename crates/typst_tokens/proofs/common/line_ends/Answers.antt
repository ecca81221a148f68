use Rattle.std.proofs.Common.{arith}
use Rattle.typst_tokens.proofs.LineEnds.{one-space}
use Rattle.typst_tokens.proofs.common.line_ends.Goals as goal

pub returns-then-byte-eq32 : goal.returns-then-byte-eq32
returns-then-byte-eq32 c = grind (arith, one-space)
