use Rattle.std.proofs.Common.{arith}
use Rattle.typst_language.proofs.Aside.{before-noted}
use Rattle.typst_language.proofs.log.Log.look_before.Goals as goal

pub returns-then-count-len : goal.returns-then-count-len
returns-then-count-len c = grind (arith, before-noted)
