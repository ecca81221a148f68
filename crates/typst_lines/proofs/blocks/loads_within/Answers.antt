use Rattle.std.proofs.Common.{arith}
use Rattle.typst_lines.proofs.Counts.{sum-range}
use Rattle.typst_lines.proofs.blocks.loads_within.Goals as goal

pub loop-at-preserved : goal.loop-at-preserved
loop-at-preserved g c = grind (arith, sum-range)

pub returns-then-more-most : goal.returns-then-more-most
returns-then-more-most g c = grind (arith, sum-range)
