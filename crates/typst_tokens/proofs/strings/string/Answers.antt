use Rattle.std.proofs.Common.{arith}
use Rattle.typst_tokens.proofs.StringSteps.{turn-escaped, turn-last, turn-on, string-on, string-stop, string-open, string-begins}
use Rattle.typst_tokens.proofs.strings.string.Goals as goal

pub loop-c-init : goal.loop-c-init
loop-c-init c = grind (arith, string-begins)

pub loop-c-preserved-then-escaped : goal.loop-c-preserved-then-escaped
loop-c-preserved-then-escaped c = grind (arith, string-on, turn-escaped)

pub returns-then-c-eq34 : goal.returns-then-c-eq34
returns-then-c-eq34 c = grind (arith, string-stop, turn-last)

pub loop-c-preserved : goal.loop-c-preserved
loop-c-preserved c = grind (arith, string-on, turn-on)

pub returns : goal.returns
returns c = grind (arith, string-open)
