use Rattle.std.proofs.Common.{arith}
use Rattle.typst_tokens.proofs.RawTexts.{ticks-long, turn-none, turn-last, turn-more, raw-on, raw-stop, raw-open, raw-two, raw-more}
use Rattle.typst_tokens.proofs.Steps.{step-grows}
use Rattle.typst_tokens.proofs.raw.raw.Goals as goal

pub returns-then-backticks-eq2 : goal.returns-then-backticks-eq2
returns-then-backticks-eq2 c = grind (arith, raw-two, ticks-long)

pub loop-c-init : goal.loop-c-init
loop-c-init c = grind (arith, raw-more, ticks-long)

pub loop-c-preserved-then-c-ne96 : goal.loop-c-preserved-then-c-ne96
loop-c-preserved-then-c-ne96 c = grind (arith, raw-on, turn-none)

pub overflow_add-found : goal.overflow_add-found
overflow_add-found c = grind (arith, step-grows)

pub returns-then-found-backticks : goal.returns-then-found-backticks
returns-then-found-backticks c = grind (arith, turn-last, raw-stop)

pub overflow_add-found-else-found-backticks : goal.overflow_add-found-else-found-backticks
overflow_add-found-else-found-backticks c = grind (arith, step-grows)

pub loop-c-preserved : goal.loop-c-preserved
loop-c-preserved c = grind (arith, turn-more, raw-on, step-grows)

pub returns : goal.returns
returns c = grind (arith, raw-open)
