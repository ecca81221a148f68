use Rattle.typst_positions.proofs.Cited.{◌-◌, arith, false_from_ne_true}
use Rattle.typst_positions.proofs.Places.{line-is}
use Rattle.typst_positions.proofs.starts.line_len.Goals as goal

pub returns-in-Some-clause-line : goal.returns-in-Some-clause-line
returns-in-Some-clause-line c = grind (arith, line-is, false_from_ne_true)

pub returns-in-None-clause-line : goal.returns-in-None-clause-line
returns-in-None-clause-line c = grind (arith, line-is, false_from_ne_true)
