use Rattle.typst_code.proofs.Cited.{arith, turning-next, does-last}
use Rattle.typst_code.proofs.arguments.content_turns.Goals as goal

pub returns-then-not-goes_on : goal.returns-then-not-goes_on
returns-then-not-goes_on g c l h b = grind (arith, does-last)

pub turns-preserved : goal.turns-preserved
turns-preserved g c l h b = grind (arith, turning-next)
