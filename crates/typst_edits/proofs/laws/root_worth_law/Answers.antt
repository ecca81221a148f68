use Rattle.typst_edits.proofs.CandidateWorth.{root-worth-law}
use Rattle.typst_edits.proofs.laws.root_worth_law.Goals as goal

pub returns : goal.returns
returns c = root-worth-law
