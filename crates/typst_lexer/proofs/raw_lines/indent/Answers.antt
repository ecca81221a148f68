use Rattle.typst_lexer.proofs.Cited.{arith, ahead-text}
use Rattle.typst_lexer.proofs.Moves.{chars-fit}
use Rattle.typst_lexer.proofs.raw_lines.indent.Goals as goal

pub loop-s-init : goal.loop-s-init
loop-s-init c = grind (arith, ahead-text, chars-fit)
