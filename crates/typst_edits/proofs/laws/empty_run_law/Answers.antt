use Rattle.typst_edits.proofs.EmptyRuns.{empty-text-law}
use Rattle.typst_edits.proofs.EmptyBlocks.{empty-block-law}
use Rattle.typst_edits.proofs.laws.empty_run_law.Goals as goal

pub returns : goal.returns
returns c = record { text = empty-text-law; block = empty-block-law }
