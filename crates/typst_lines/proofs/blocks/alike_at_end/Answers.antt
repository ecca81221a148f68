use Rattle.std.proofs.Common.{arith}
use Rattle.typst_lines.proofs.Alike.{end-more}
use Rattle.typst_lines.proofs.blocks.alike_at_end.Goals as goal

pub loop-count-preserved : goal.loop-count-preserved
loop-count-preserved c = grind (arith, end-more)
