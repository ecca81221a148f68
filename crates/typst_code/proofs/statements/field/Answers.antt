use Rattle.typst_code.proofs.Cited.{does-next, does-gives, field}
use Rattle.typst_code.proofs.statements.field.Goals as goal

pub returns-clause-means : goal.returns-clause-means
unfolding field
returns-clause-means g c l h = does-next (c.in_ok-eat.ensures l h) (does-next (c.in_ok-expect_identifier.ensures l h) does-gives)
