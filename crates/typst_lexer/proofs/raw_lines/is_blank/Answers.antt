use Rattle.typst_lexer.proofs.Cited.{arith, ahead-text}
use Rattle.typst_lexer.proofs.Moves.{moved-ahead, blank-is}
use Rattle.typst_lexer.proofs.raw_lines.is_blank.Goals as goal

pub returns : goal.returns
returns c = grind (arith, ahead-text, moved-ahead, blank-is)
