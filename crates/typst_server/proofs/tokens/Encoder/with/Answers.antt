use Rattle.std.proofs.Common.{arith}
use Rattle.typst_server.proofs.Encoding.{token-added}
use Rattle.typst_server.proofs.tokens.Encoder.with.Goals as goal

pub loop-index-preserved : goal.loop-index-preserved
loop-index-preserved c = grind (arith, token-added)
