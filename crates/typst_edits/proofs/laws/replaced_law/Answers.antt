use Rattle.typst_edits.proofs.Replaced.{front-law, replaced-law, put-law, exchanged-law}
use Rattle.typst_edits.proofs.laws.replaced_law.Goals as goal

pub returns : goal.returns
returns c = record { front = front-law; spans = replaced-law; put = put-law; bare = exchanged-law }
