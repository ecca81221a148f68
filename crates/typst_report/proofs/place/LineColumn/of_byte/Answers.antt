use Rattle.std.proofs.Common.{arith}
use Rattle.typst_report.proofs.PlaceLemmas.{column_of-le, units_in_line-le}
use Rattle.typst_report.proofs.place.LineColumn.of_byte.Goals as goal

pub overflow_add-result : goal.overflow_add-result
overflow_add-result c = grind (arith, column_of-le)

pub overflow_add-result-2 : goal.overflow_add-result-2
overflow_add-result-2 c = grind (arith, units_in_line-le)
