use Rattle.typst_edits.proofs.RunNumbers.{inner-numbers-law, run-numbers-law}
use Rattle.typst_edits.proofs.laws.run_numbers_law.Goals as goal

pub returns : goal.returns
returns c = record { run = run-numbers-law; inner = inner-numbers-law }
