use Rattle.std.proofs.Common.{vec_len}
use Rattle.typst_features.proofs.outline.Outline.close.Given as goal

abbrev pub decreases-loop-index : goal.decreases-loop-index
decreases-loop-index l = vec_len l.self.sections.open
