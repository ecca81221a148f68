use Rattle.typst_edits.proofs.PiecesLog.{pieces-log-law}
use Rattle.typst_edits.proofs.Resumed.{resume-law, count-law}
use Rattle.typst_edits.proofs.laws.resume_law.Goals as goal

pub returns : goal.returns
returns c = record { pieces = resume-law; count = count-law; log = pieces-log-law }
