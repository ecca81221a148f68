use Rattle.typst_edits.proofs.Leading.{leading-inner-law, leading-law}
use Rattle.typst_edits.proofs.laws.leading_law.Goals as goal

pub returns : goal.returns
returns c = record { run = leading-law; inner = leading-inner-law }
