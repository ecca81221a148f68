use Rattle.typst_lexer.proofs.Cited.{arith, before-all}
use Rattle.typst_lexer.proofs.Loops.{spare-no, spare-found}
use Rattle.typst_lexer.proofs.raw_lines.has_spare_space.Goals as goal

pub returns-then-not-is_after : goal.returns-then-not-is_after
returns-then-not-is_after c = grind (arith, before-all, spare-no)

pub loop-c-init : goal.loop-c-init
loop-c-init c = grind (arith, before-all)

pub returns-then-not-is_whitespace : goal.returns-then-not-is_whitespace
returns-then-not-is_whitespace c = grind (arith, before-all, spare-found)
