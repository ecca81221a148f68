use Rattle.typst_edits.proofs.Walk.{walk-law}
use Rattle.typst_edits.proofs.laws.path_law.Goals as goal

pub returns : goal.returns
returns c = walk-law
