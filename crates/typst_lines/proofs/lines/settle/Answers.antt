use Rattle.std.proofs.Common.{◌-◌, arith}
use Rattle.typst_lines.proofs.Settled.{settled-is, written-over}
use Rattle.typst_lines.proofs.lines.settle.Goals as goal

pub returns-then-fresh-gone : goal.returns-then-fresh-gone
returns-then-fresh-gone c = grind (arith, written-over)

pub returns : goal.returns
returns c = grind (arith, settled-is)
