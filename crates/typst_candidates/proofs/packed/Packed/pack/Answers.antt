use Rattle.std.proofs.Common.{arith}
use Rattle.typst_candidates.proofs.Words.{joined-by, tagged}
use Rattle.typst_candidates.proofs.packed.Packed.pack.Goals as goal

pub returns : goal.returns
returns c = grind (arith, joined-by, tagged)
