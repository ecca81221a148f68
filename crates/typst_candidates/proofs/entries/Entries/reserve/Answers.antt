use Rattle.std.proofs.Common.{arith}
use Rattle.typst_candidates.proofs.Words.{unpacked-length}
use Rattle.typst_candidates.proofs.entries.Entries.reserve.Goals as goal

pub returns-clause-room : goal.returns-clause-room
returns-clause-room c = grind (arith, unpacked-length)
