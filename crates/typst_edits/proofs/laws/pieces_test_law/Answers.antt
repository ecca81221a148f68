use Rattle.typst_edits.proofs.PiecesTest.{run-entries-law, cut-once-law, read-law, run-gives-law, run-part-law}
use Rattle.typst_edits.proofs.laws.pieces_test_law.Goals as goal

pub returns : goal.returns
returns c = record { entries = run-entries-law; once = cut-once-law; read = read-law; gives = run-gives-law; part = run-part-law }
