use Rattle.std.proofs.Common.{refl}
use Rattle.typst_edits.proofs.laws.blocks_of_texts.Goals as goal
use Rattle.typst_edits.proofs.Computing.{computing}

pub returns : goal.returns
unfolding computing
returns c = λ beyond. record { places = refl; paths = refl; rests = refl; names = refl; bytes = refl; takes_back = refl; back = refl; levels = refl; looked_before = refl; looked_after = refl; star_behind = refl; paren_places = refl; paren_paths = refl; call_paths = refl; none = refl }
