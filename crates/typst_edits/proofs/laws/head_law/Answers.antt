use Rattle.typst_edits.proofs.Heads.{head-law, meets-law, none-back-law, none-behind-law}
use Rattle.typst_edits.proofs.laws.head_law.Goals as goal

pub returns : goal.returns
returns c = record { pieces = head-law; edit = none-back-law; behind = none-behind-law; meets = meets-law }
