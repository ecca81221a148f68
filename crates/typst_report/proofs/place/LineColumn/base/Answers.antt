use Rattle.std.proofs.Common.{◌-◌, arith}
use Rattle.typst_report.proofs.PlaceLemmas.{base_self}
use Rattle.typst_report.proofs.place.LineColumn.base.Goals as goal

pub returns-in-Some : goal.returns-in-Some
returns-in-Some c = grind (arith, base_self)
