use Rattle.typst_edits.proofs.CandidateWorth.{inner-worth-law}
use Rattle.typst_edits.proofs.laws.inner_worth_law.Goals as goal

pub returns : goal.returns
returns c = inner-worth-law
