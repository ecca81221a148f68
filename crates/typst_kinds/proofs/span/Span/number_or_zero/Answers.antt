use Rattle.std.proofs.Common.{rules}
use Rattle.typst_kinds.proofs.span.Span.number_or_zero.Goals as goal

pub returns-in-None-clause-value : goal.returns-in-None-clause-value
returns-in-None-clause-value c = search rules
