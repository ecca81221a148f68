use Rattle.std.proofs.Common.{arith}
use Rattle.typst_features.proofs.MentionsFound.{left_pushed, steps_pushed}
use Rattle.typst_features.proofs.naming.mentions.Goals as goal

pub loop-row-preserved : goal.loop-row-preserved
loop-row-preserved c = grind (arith, left_pushed)

pub loop-row-smaller : goal.loop-row-smaller
loop-row-smaller c = grind (arith, steps_pushed)
