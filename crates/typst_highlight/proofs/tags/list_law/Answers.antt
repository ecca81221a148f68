use Rattle.std.proofs.Common.{rules}
use Rattle.typst_highlight.proofs.tags.list_law.Goals as goal

pub returns : goal.returns
returns c = search rules
