use Rattle.std.proofs.Common.{arith}
use Rattle.typst_candidates.proofs.Stops.{block-pushed}
use Rattle.typst_candidates.proofs.candidate.push_block.Goals as goal

pub returns : goal.returns
returns c = grind (arith, block-pushed)
