use Rattle.typst_tokens.specs.Code.{code}
use Rattle.typst_tokens.proofs.Frame.{frame}
use Rattle.typst_tokens.proofs.code_laws.code_frame_law.Goals as goal

pub returns : goal.returns
returns c = λ k d p q g. frame (code k d) p q g
