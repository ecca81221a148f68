use Rattle.typst_tokens.proofs.Columns.{column-frame}
use Rattle.typst_tokens.proofs.column_laws.column_frame_law.Goals as goal

pub returns : goal.returns
returns c = λ p q g. column-frame p q g
