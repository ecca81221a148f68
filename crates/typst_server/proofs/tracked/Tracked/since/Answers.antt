use Rattle.std.proofs.Common.{arith}
use Rattle.typst_server.proofs.KeptTokens.{told_since}
use Rattle.typst_server.proofs.tracked.Tracked.since.Goals as goal

pub returns-in-Some : goal.returns-in-Some
returns-in-Some c = grind (arith, told_since)
