use Rattle.typst_edits.proofs.BlockTest.{block-test-law}
use Rattle.typst_edits.proofs.laws.block_test_law.Goals as goal

pub returns : goal.returns
returns c = block-test-law
