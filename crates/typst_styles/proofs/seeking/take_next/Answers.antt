use Rattle.std.proofs.Common.{arith}
use Rattle.typst_styles.proofs.SoughtRows.{rows_pushed, steps_pushed}
use Rattle.typst_styles.proofs.SoughtSteps.{dropped, taken}
use Rattle.typst_styles.proofs.seeking.take_next.Goals as goal

pub returns-in_default-clause-taken : goal.returns-in_default-clause-taken
returns-in_default-clause-taken c = grind (arith, dropped)

pub returns-clause-taken : goal.returns-clause-taken
returns-clause-taken c = grind (arith, taken)

pub returns-clause-ready : goal.returns-clause-ready
returns-clause-ready c = grind (arith, rows_pushed)

pub returns-clause-fewer : goal.returns-clause-fewer
returns-clause-fewer c = grind (arith, steps_pushed)
