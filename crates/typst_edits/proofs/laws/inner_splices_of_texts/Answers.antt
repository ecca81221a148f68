use Rattle.std.proofs.Common.{refl}
use Rattle.typst_edits.proofs.laws.inner_splices_of_texts.Goals as goal
use Rattle.typst_edits.proofs.Computing.{computing}

pub returns : goal.returns
unfolding computing
returns c = λ beyond. record { space_old = refl; space_new = refl; bare_old = refl; bare_new = refl }
