use Rattle.typst_edits.proofs.BlockPart.{block-part-law, part-fits-law}
use Rattle.typst_edits.proofs.laws.part_law.Goals as goal

pub returns : goal.returns
returns c = record { block = block-part-law; fits = part-fits-law }
