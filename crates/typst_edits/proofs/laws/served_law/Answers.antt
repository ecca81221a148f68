use Rattle.typst_edits.proofs.Served.{served-law}
use Rattle.typst_edits.proofs.laws.served_law.Goals as goal

pub returns : goal.returns
returns c = served-law
