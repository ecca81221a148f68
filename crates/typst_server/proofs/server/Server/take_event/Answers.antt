use Rattle.std.proofs.Common.{arith}
use Rattle.typst_server.proofs.Taking.{takes_closed}
use Rattle.typst_server.proofs.server.Server.take_event.Goals as goal

pub returns-in-Closed-clause-reply : goal.returns-in-Closed-clause-reply
returns-in-Closed-clause-reply c = grind (arith, takes_closed)
