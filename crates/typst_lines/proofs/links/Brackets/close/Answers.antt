use Rattle.typst_lines.proofs.Cited.{arith, common_steps}
use Rattle.typst_lines.proofs.links.Brackets.close.Goals as goal

pub returns-in_default-clause-turn : goal.returns-in_default-clause-turn
returns-in_default-clause-turn c = grind (arith, common_steps)

pub returns-in_default-clause-same : goal.returns-in_default-clause-same
returns-in_default-clause-same c = grind (arith, common_steps)
