use Rattle.typst_edits.proofs.RunCandidates.{begins-well-law}
use Rattle.typst_edits.proofs.laws.piece_candidates_law.Goals as goal

pub returns : goal.returns
returns c = begins-well-law
