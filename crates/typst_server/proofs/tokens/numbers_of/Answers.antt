use Rattle.std.proofs.Common.{arith}
use Rattle.typst_server.proofs.Decoding.{tokens-back}
use Rattle.typst_server.proofs.tokens.numbers_of.Goals as goal
use Rattle.std.proofs.lemmas.Result.{IfOk-weaker}

pub returns-clause-decoded : goal.returns-clause-decoded
returns-clause-decoded c = grind (arith, IfOk-weaker, tokens-back)
