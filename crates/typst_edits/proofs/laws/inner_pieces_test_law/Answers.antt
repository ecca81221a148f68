use Rattle.typst_edits.proofs.PiecesTest.{inner-entries-law, inner-once-law, inner-test-law, inner-part-law, inner-units-law}
use Rattle.typst_edits.proofs.laws.inner_pieces_test_law.Goals as goal

pub returns : goal.returns
returns c = record {
  entries = inner-entries-law;
  once = inner-once-law;
  inner = inner-test-law;
  part = inner-part-law;
  units = inner-units-law;
}
