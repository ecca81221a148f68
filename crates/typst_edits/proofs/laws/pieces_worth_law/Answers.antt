use Rattle.typst_edits.proofs.RunPieces.{pieces-law}
use Rattle.typst_edits.proofs.laws.pieces_worth_law.Goals as goal

pub returns : goal.returns
returns c = pieces-law
