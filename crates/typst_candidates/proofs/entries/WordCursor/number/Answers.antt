use Rattle.std.proofs.Common.{arith}
use Rattle.typst_candidates.proofs.Words.{unpacked-length}
use Rattle.typst_candidates.proofs.entries.WordCursor.number.Goals as goal

pub returns-clause-within : goal.returns-clause-within
returns-clause-within c = grind (arith, unpacked-length)
