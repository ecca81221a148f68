use Rattle.std.proofs.Common.{rules}
use Rattle.typst_highlight.proofs.progress.Progress.next_leaf.Goals as goal

pub returns-in-None : goal.returns-in-None
returns-in-None c = search rules
