use Rattle.std.proofs.Common.{arith}
use Rattle.typst_candidates.proofs.Cursors.{entry_steps}
use Rattle.typst_candidates.proofs.run.pass_pieces.Goals as goal

pub loop-smaller : goal.loop-smaller
loop-smaller c = grind (arith, entry_steps)

pub loop-preserved : goal.loop-preserved
loop-preserved c = grind (arith, entry_steps)
