use Rattle.std.proofs.Common.{arith}
use Rattle.typst_candidates.proofs.Spans.{spans-few, spans-next, spans-small}
use Rattle.typst_candidates.proofs.entries.block_spans.Goals as goal

pub overflow_add-sum : goal.overflow_add-sum
overflow_add-sum c = grind (arith, spans-few, spans-next, spans-small)

pub loop-word-preserved : goal.loop-word-preserved
loop-word-preserved c = grind (arith, spans-next)
