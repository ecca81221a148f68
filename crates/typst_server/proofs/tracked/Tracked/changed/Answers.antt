use Rattle.std.proofs.Common.{arith}
use Rattle.typst_server.proofs.KeptTokens.{dropped_stand, stays_stand}
use Rattle.typst_server.proofs.tracked.Tracked.changed.Goals as goal

pub invariant_of-result : goal.invariant_of-result
invariant_of-result c = grind (arith, stays_stand)

pub invariant_of-result-in-None : goal.invariant_of-result-in-None
invariant_of-result-in-None c = dropped_stand c.self.inside.document c.in_ok-document.document c.self.inside.kept c.self.inside.sent c.last_after.result c.self.invariant c.last_after.ensures
