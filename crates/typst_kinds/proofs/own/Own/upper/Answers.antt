use Rattle.std.proofs.Common.{rules}
use Rattle.typst_kinds.proofs.own.Own.upper.Goals as goal

pub returns-in-Inner-clause-value : goal.returns-in-Inner-clause-value
returns-in-Inner-clause-value c = search rules
