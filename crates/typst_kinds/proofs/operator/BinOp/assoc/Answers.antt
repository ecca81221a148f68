use Rattle.std.proofs.Common.{rules}
use Rattle.typst_kinds.proofs.operator.BinOp.assoc.Goals as goal

pub returns-in-SubAssign : goal.returns-in-SubAssign
returns-in-SubAssign c = search rules
