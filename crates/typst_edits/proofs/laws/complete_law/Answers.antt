use Rattle.typst_edits.proofs.Complete.{complete-law}
use Rattle.typst_edits.proofs.laws.complete_law.Goals as goal

pub returns : goal.returns
returns c = complete-law
