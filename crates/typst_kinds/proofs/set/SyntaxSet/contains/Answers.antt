use Rattle.typst_kinds.proofs.Cited.{◌==◌, ap, shr_and_one, has}
use Rattle.typst_kinds.proofs.set.SyntaxSet.contains.Goals as goal

pub returns : goal.returns
unfolding has
returns c = rw c.place-place.ensures.place (ap (λ n. n == 1) (shr_and_one _ _))
