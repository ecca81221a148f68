use Rattle.typst_lexer.proofs.Cited.{token, frame}
use Rattle.typst_lexer.proofs.token_laws.token_frame_law.Goals as goal

pub returns : goal.returns
returns c = λ k mode p q g. frame (token k mode) p q g
