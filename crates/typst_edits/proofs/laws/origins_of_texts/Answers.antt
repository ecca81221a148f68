use Rattle.std.proofs.Common.{refl}
use Rattle.typst_edits.proofs.laws.origins_of_texts.Goals as goal
use Rattle.typst_edits.proofs.Computing.{computing}

pub returns : goal.returns
unfolding computing
returns c = λ beyond. record { pair_units = refl; pair_seconds = refl; default_units = refl; default_seconds = refl; own_units = refl; own_seconds = refl }
