use Rattle.typst_protocol.proofs.Cited.{arith, common_steps}
use Rattle.typst_protocol.proofs.frames.bytes.read.Goals as goal

pub returns-in-Ok-clause-taken : goal.returns-in-Ok-clause-taken
returns-in-Ok-clause-taken g c = grind (arith, common_steps)
