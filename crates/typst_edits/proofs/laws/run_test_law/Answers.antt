use Rattle.typst_edits.proofs.RunOver.{over-law}
use Rattle.typst_edits.proofs.RunTest.{run-test-law}
use Rattle.typst_edits.proofs.laws.run_test_law.Goals as goal

pub returns : goal.returns
returns c = record { root = run-test-law; over = over-law }
