use Rattle.typst_code.proofs.Cited.{is-not, is-so, does-next, does-gives, does-pick, does-other, direct_field}
use Rattle.typst_code.proofs.expressions.direct_field.Goals as goal

pub returns-then-ne-clause-means : goal.returns-then-ne-clause-means
unfolding direct_field
returns-then-ne-clause-means g c l h = does-next (c.in_ok-further.ensures l h) (does-other (is-not c.ne.ensures c.if-ne.true) does-gives)

pub returns-clause-means : goal.returns-clause-means
unfolding direct_field
returns-clause-means g c l h = does-next (c.in_ok-further.ensures l h) (does-pick (is-so c.ne.ensures c.if-ne.false) (c.in_ok-field.ensures.means l h))
