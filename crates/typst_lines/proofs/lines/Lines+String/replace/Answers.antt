use Rattle.typst_lines.proofs.Cited.{arith, common_steps}
use Rattle.typst_lines.proofs.lines.Lines+String.replace.Goals as goal

pub returns-then-eq-clause-changed : goal.returns-then-eq-clause-changed
returns-then-eq-clause-changed c = grind (arith, common_steps)

pub invariant_of-self : goal.invariant_of-self
invariant_of-self c = grind (arith, common_steps)
