use Rattle.std.proofs.Common.{arith}
use Rattle.typst_highlight.proofs.Levels.{name_facing}
use Rattle.typst_highlight.proofs.progress.Progress.name.Goals as goal

pub returns : goal.returns
returns c = grind (arith, name_facing)
