use Rattle.std.proofs.Common.{rules}
use Rattle.typst_kinds.proofs.span.SpanNumber.new.Goals as goal

pub invariant_of-result : goal.invariant_of-result
invariant_of-result c = search rules

pub returns-else-value : goal.returns-else-value
returns-else-value c = search rules
