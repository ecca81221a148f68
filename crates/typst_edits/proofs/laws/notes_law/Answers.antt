use Rattle.typst_edits.proofs.PieceNotes.{inner-notes-law, run-notes-law}
use Rattle.typst_edits.proofs.laws.notes_law.Goals as goal

pub returns : goal.returns
returns c = record { run = run-notes-law; inner = inner-notes-law }
