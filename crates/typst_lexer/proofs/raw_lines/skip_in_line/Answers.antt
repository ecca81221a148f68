use Rattle.std.proofs.Common.{arith}
use Rattle.typst_lexer.proofs.Moves.{skip-step}
use Rattle.typst_lexer.proofs.raw_lines.skip_in_line.Goals as goal

pub loop-i-preserved : goal.loop-i-preserved
loop-i-preserved c = grind (arith, skip-step)
