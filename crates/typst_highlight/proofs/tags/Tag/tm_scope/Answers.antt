use Rattle.std.proofs.Common.{rules}
use Rattle.typst_highlight.proofs.tags.Tag.tm_scope.Goals as goal

pub returns-in-Emph : goal.returns-in-Emph
returns-in-Emph c = search rules
