use Rattle.std.proofs.Common.{arith}
use Rattle.typst_lines.proofs.Counts.{to-boundary, sum-front}
use Rattle.typst_lines.proofs.blocks.boundary_within.Goals as goal

pub returns-clause-measured : goal.returns-clause-measured
returns-clause-measured g c = grind (arith, to-boundary)

pub returns-clause-stops : goal.returns-clause-stops
returns-clause-stops g c room most = grind (arith, sum-front)
