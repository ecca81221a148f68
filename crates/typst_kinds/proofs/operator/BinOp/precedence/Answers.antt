use Rattle.std.proofs.Common.{rules}
use Rattle.typst_kinds.proofs.operator.BinOp.precedence.Goals as goal

pub returns-in-Or : goal.returns-in-Or
returns-in-Or c = search rules
