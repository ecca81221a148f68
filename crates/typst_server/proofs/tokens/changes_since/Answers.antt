use Rattle.std.proofs.Common.{arith}
use Rattle.typst_server.proofs.Sending.{made_since}
use Rattle.typst_server.proofs.tokens.changes_since.Goals as goal

pub returns : goal.returns
returns c = grind (arith, made_since)
