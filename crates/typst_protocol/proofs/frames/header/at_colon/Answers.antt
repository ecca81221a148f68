use Rattle.typst_protocol.proofs.Cited.{common_steps, arith}
use Rattle.typst_protocol.proofs.frames.header.at_colon.Goals as goal

pub returns-in_err-colon : goal.returns-in_err-colon
returns-in_err-colon c = grind (arith, common_steps)

pub returns : goal.returns
returns c = grind (arith, common_steps)
