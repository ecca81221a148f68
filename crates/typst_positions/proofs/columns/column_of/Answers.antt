use Rattle.std.proofs.Common.{◌-◌, arith}
use Rattle.typst_positions.proofs.Widths.{column-plain, plain-boundary}
use Rattle.typst_positions.proofs.columns.column_of.Goals as goal

pub range_from-requires : goal.range_from-requires
range_from-requires c = λ _. plain-boundary c.args.line.now c.args.bytes c.plain_front-plain.result c.utf8.line c.plain_front-plain.ensures

pub returns : goal.returns
returns c = grind (arith, column-plain)
