use Rattle.typst_edits.proofs.OneReading.{one-reading-law, gives-again-law, kept-nodes-law, put-behind-law}
use Rattle.typst_edits.proofs.laws.one_reading_law.Goals as goal

pub returns : goal.returns
returns c = record { serves = one-reading-law; again = gives-again-law; kept = kept-nodes-law; behind = put-behind-law }
