use Rattle.typst_highlight.proofs.Cited.{refl, place_of}
use Rattle.typst_highlight.proofs.rules.place.Goals as goal

pub returns-clause-place : goal.returns-clause-place
unfolding place_of
returns-clause-place c = refl
