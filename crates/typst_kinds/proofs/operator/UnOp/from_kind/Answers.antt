use Rattle.std.proofs.Common.{rules}
use Rattle.typst_kinds.proofs.operator.UnOp.from_kind.Goals as goal

pub returns-in-Not : goal.returns-in-Not
returns-in-Not c = search rules
