use Rattle.std.proofs.Common.{arith}
use Rattle.typst_server.proofs.KeptTokens.{carried_stand}
use Rattle.typst_server.proofs.tracked.Tracked.renew.Goals as goal

pub invariant_of-self : goal.invariant_of-self
invariant_of-self c = grind (arith, carried_stand)
