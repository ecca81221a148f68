use Rattle.typst_kinds.proofs.Cited.{refl, place_of}
use Rattle.typst_kinds.proofs.set.place.Goals as goal

pub returns-clause-place : goal.returns-clause-place
unfolding place_of
returns-clause-place c = refl
