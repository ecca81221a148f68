use Rattle.std.proofs.Common.{arith}
use Rattle.typst_server.proofs.Sending.{numbers_count, told_tokens}
use Rattle.typst_server.proofs.tokens.to_send.Goals as goal

pub returns : goal.returns
returns c = grind (arith, numbers_count, told_tokens)
