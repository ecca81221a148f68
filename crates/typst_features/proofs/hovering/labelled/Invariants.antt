use Rattle.std.proofs.Common.{length}
use Rattle.typst_features.proofs.hovering.labelled.Given as goal

abbrev pub decreases-loop-walk : goal.decreases-loop-walk
decreases-loop-walk l = length l.walk
