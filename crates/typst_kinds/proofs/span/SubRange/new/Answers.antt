use Rattle.std.proofs.Common.{rules}
use Rattle.typst_kinds.proofs.span.SubRange.new.Goals as goal

pub returns-else-start-end : goal.returns-else-start-end
returns-else-start-end c = search rules
