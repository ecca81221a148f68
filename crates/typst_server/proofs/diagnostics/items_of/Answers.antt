use Rattle.std.proofs.Common.{arith}
use Rattle.typst_server.proofs.Publishing.{published-more}
use Rattle.typst_server.proofs.diagnostics.items_of.Goals as goal

pub loop-problem-preserved : goal.loop-problem-preserved
loop-problem-preserved c = grind (arith, published-more)
