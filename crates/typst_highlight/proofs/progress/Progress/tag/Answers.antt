use Rattle.std.proofs.Common.{arith}
use Rattle.typst_highlight.proofs.Levels.{tag_followed, tag_from}
use Rattle.typst_highlight.proofs.progress.Progress.tag.Goals as goal

pub returns-then-is_followed : goal.returns-then-is_followed
returns-then-is_followed c = grind (arith, tag_followed, tag_from)

pub returns : goal.returns
returns c = grind (arith, tag_from)
