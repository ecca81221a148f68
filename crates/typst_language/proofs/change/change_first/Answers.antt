use Rattle.typst_language.proofs.Cited.{arith, common_steps}
use Rattle.typst_language.proofs.change.change_first.Goals as goal

pub returns-clause-changed : goal.returns-clause-changed
returns-clause-changed c = grind (arith, common_steps)
