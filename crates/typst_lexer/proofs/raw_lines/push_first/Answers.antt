use Rattle.typst_lexer.proofs.Cited.{arith, ahead-text}
use Rattle.typst_lexer.proofs.Moves.{start-before, moved-ahead, moved-before}
use Rattle.typst_lexer.proofs.Loops.{lead-none, lead-one, pushed-two}
use Rattle.typst_lexer.proofs.raw_lines.push_first.Goals as goal

pub returns-then-not-eat_if : goal.returns-then-not-eat_if
returns-then-not-eat_if c = grind (arith, ahead-text, lead-none)

pub returns : goal.returns
returns c = grind (arith, ahead-text, start-before, moved-before, moved-ahead, pushed-two, lead-one)
