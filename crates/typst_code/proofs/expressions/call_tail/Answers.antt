use Rattle.typst_code.proofs.Cited.{does-next, does-gives, call_tail}
use Rattle.typst_code.proofs.expressions.call_tail.Goals as goal

pub returns-clause-means : goal.returns-clause-means
unfolding call_tail
returns-clause-means g c l h b = does-next (c.in_ok-arguments.ensures l h b) does-gives
