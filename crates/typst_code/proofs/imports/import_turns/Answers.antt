use Rattle.typst_code.proofs.Cited.{arith, turning-next, does-last}
use Rattle.typst_code.proofs.imports.import_turns.Goals as goal

pub returns-then-not-goes_on : goal.returns-then-not-goes_on
returns-then-not-goes_on g c l h = grind (arith, does-last)

pub turns-preserved : goal.turns-preserved
turns-preserved g c l h = grind (arith, turning-next)
