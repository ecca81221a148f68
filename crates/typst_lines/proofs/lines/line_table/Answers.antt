use Rattle.typst_lines.proofs.Cited.{arith, IsCharBoundary-start}
use Rattle.typst_lines.proofs.LinesFromLaw.{table-after, none-before}
use Rattle.typst_lines.proofs.lines.line_table.Goals as goal

pub new-line-items-requires-clause-boundary : goal.new-line-items-requires-clause-boundary
new-line-items-requires-clause-boundary c = IsCharBoundary-start c.args.text.now c.utf8.text

pub new-line-items-requires-clause-units : goal.new-line-items-requires-clause-units
new-line-items-requires-clause-units c = none-before c.args.text.now

pub loop-line-init : goal.loop-line-init
loop-line-init c = grind (arith, table-after)
