use Rattle.std.proofs.Common.{arith}
use Rattle.typst_positions.proofs.Tables.{table-split}
use Rattle.typst_positions.proofs.starts.table.Goals as goal

pub returns : goal.returns
returns c = grind (arith, table-split)
