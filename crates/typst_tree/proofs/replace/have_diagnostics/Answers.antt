use Rattle.std.proofs.Common.{arith}
use Rattle.typst_tree.proofs.Marks.{some_have, none_more}
use Rattle.typst_tree.proofs.replace.have_diagnostics.Goals as goal

pub returns-then-has_diagnostics : goal.returns-then-has_diagnostics
returns-then-has_diagnostics c = grind (arith, some_have)

pub loop-kid-preserved : goal.loop-kid-preserved
loop-kid-preserved c = grind (arith, none_more)
