use Rattle.typst_edits.proofs.BlockModes.{mode-law}
use Rattle.typst_edits.proofs.laws.mode_law.Goals as goal

pub returns : goal.returns
returns c = mode-law
