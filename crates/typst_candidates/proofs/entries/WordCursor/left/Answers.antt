use Rattle.std.proofs.Common.{arith}
use Rattle.typst_candidates.proofs.Words.{unpacked-length}
use Rattle.typst_candidates.proofs.entries.WordCursor.left.Goals as goal

pub returns : goal.returns
returns c = grind (arith, unpacked-length)
