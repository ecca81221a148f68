use Rattle.typst_protocol.proofs.Again.{all-again, frame-again}
use Rattle.typst_protocol.proofs.frames.writer.written_is_read.Goals as goal

pub returns : goal.returns
returns c = record { one = λ body rest fits. frame-again body rest fits; all = λ bodies fits. all-again bodies fits }
