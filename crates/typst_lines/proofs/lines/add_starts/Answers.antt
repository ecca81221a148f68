use Rattle.typst_lines.proofs.Cited.{append_assoc, arith}
use Rattle.typst_lines.proofs.Edited.{upto-one}
use Rattle.typst_lines.proofs.lines.add_starts.Goals as goal

pub loop-line-preserved : goal.loop-line-preserved
loop-line-preserved c = grind (arith, append_assoc, upto-one)
