use Rattle.std.proofs.Common.{arith}
use Rattle.typst_lines.proofs.PlaceLemmas.{past-step}
use Rattle.typst_lines.proofs.scanner.Scanner.eat_while_fn.Goals as goal

pub loop-c-preserved : goal.loop-c-preserved
loop-c-preserved g c = grind (arith, past-step)
