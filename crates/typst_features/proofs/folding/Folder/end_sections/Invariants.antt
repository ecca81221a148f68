use Rattle.std.proofs.Common.{vec_len}
use Rattle.typst_features.proofs.folding.Folder.end_sections.Given as goal

abbrev pub decreases-loop-start : goal.decreases-loop-start
decreases-loop-start l = vec_len l.self.sections.open
