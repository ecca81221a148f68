use Rattle.std.proofs.Common.{arith}
use Rattle.typst_lines.proofs.CommonEnds.{before-all}
use Rattle.typst_lines.proofs.Trimmed.{strip-step, strip-stop}
use Rattle.typst_lines.proofs.ends.without_last.Goals as goal

pub loop-c-init : goal.loop-c-init
loop-c-init g c = grind (arith, before-all)

pub returns-then-not-has : goal.returns-then-not-has
returns-then-not-has g c = grind (arith, strip-stop)

pub loop-c-preserved : goal.loop-c-preserved
loop-c-preserved g c = grind (arith, strip-step)
