use Rattle.typst_edits.proofs.InnerNumbers.{inner-number-law}
use Rattle.typst_edits.proofs.Cuts.{cuts-law, inner-cuts-law}
use Rattle.typst_edits.proofs.NumberedNotes.{number-law, numbered-inner-law, numbered-run-law}
use Rattle.typst_edits.proofs.laws.numbered_notes_law.Goals as goal

pub returns : goal.returns
returns c = record { run = numbered-run-law; number = number-law; inner = numbered-inner-law; inner_number = inner-number-law; cuts = cuts-law; inner_cuts = inner-cuts-law }
