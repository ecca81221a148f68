use Rattle.typst_protocol.proofs.Cited.{common_steps, arith}
use Rattle.typst_protocol.proofs.frames.bytes.is_at_end.Goals as goal

pub returns-in-Ok-clause-value : goal.returns-in-Ok-clause-value
returns-in-Ok-clause-value g c = grind (arith, common_steps)
