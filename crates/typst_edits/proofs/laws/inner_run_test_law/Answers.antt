use Rattle.typst_edits.proofs.RunTest.{inner-run-test-law}
use Rattle.typst_edits.proofs.laws.inner_run_test_law.Goals as goal

pub returns : goal.returns
returns c = inner-run-test-law
