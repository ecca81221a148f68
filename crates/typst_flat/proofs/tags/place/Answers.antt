use Rattle.typst_flat.proofs.Cited.{refl, place_of}
use Rattle.typst_flat.proofs.tags.place.Goals as goal

pub returns-clause-place : goal.returns-clause-place
unfolding place_of
returns-clause-place c = refl
