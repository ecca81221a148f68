use Rattle.std.proofs.Common.{arith}
use Rattle.typst_features.proofs.ShownProblems.{left_pushed, steps_pushed}
use Rattle.typst_features.proofs.typing.push_row.Goals as goal

pub returns-clause-left : goal.returns-clause-left
returns-clause-left c = grind (arith, left_pushed)

pub returns-clause-steps : goal.returns-clause-steps
returns-clause-steps c = grind (arith, steps_pushed)
