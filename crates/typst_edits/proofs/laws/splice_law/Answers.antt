use Rattle.typst_edits.proofs.RunSplice.{block-splice-law, around-splice-law, run-splice-law}
use Rattle.typst_edits.proofs.Splice.{splice-law}
use Rattle.typst_edits.proofs.laws.splice_law.Goals as goal

pub returns : goal.returns
returns c = record { units = splice-law; block = block-splice-law; run = run-splice-law; around = around-splice-law }
