use Rattle.typst_edits.proofs.CandidateWorth.{candidate-law}
use Rattle.typst_edits.proofs.laws.candidate_law.Goals as goal

pub returns : goal.returns
returns c = candidate-law
