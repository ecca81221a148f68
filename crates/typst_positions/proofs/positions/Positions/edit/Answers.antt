use Rattle.std.proofs.Common.{arith}
use Rattle.std.proofs.lemmas.Result.{on_ok_weaker}
use Rattle.typst_positions.proofs.Holding.{starts-ordered}
use Rattle.typst_positions.proofs.Shifts.{replaced-is}
use Rattle.typst_positions.proofs.positions.Positions.edit.Goals as goal

pub replace-requires-clause-rising : goal.replace-requires-clause-rising
replace-requires-clause-rising c = grind (arith, starts-ordered)

pub returns-clause-ok : goal.returns-clause-ok
returns-clause-ok c = grind (arith, on_ok_weaker, replaced-is)
