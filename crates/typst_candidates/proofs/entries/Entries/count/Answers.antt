use Rattle.std.proofs.Common.{arith}
use Rattle.typst_candidates.proofs.Words.{unpacked-length}
use Rattle.typst_candidates.proofs.entries.Entries.count.Goals as goal

pub returns : goal.returns
returns c = grind (arith, unpacked-length)
