use Rattle.std.proofs.Common.{rules}
use Rattle.typst_highlight.proofs.spans.spanned.Goals as goal

pub returns-in-Some-Error : goal.returns-in-Some-Error
returns-in-Some-Error c = search rules
