use Rattle.typst_edits.proofs.Text.{block-law, names-law}
use Rattle.typst_edits.proofs.laws.block_law.Goals as goal

pub returns : goal.returns
returns c = record { edit = block-law; names = names-law }
