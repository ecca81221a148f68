use Rattle.typst_edits.proofs.Standing.{standing-law}
use Rattle.typst_edits.proofs.Unnoted.{unnoted-law}
use Rattle.typst_edits.proofs.laws.standing_law.Goals as goal

pub returns : goal.returns
returns c = record { blocks = standing-law; unnoted = unnoted-law }
