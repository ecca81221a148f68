use Rattle.typst_edits.proofs.CandidateWorth.{block-worth-law}
use Rattle.typst_edits.proofs.laws.block_worth_law.Goals as goal

pub returns : goal.returns
returns c = block-worth-law
