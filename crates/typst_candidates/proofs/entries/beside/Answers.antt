use Rattle.std.proofs.Common.{arith}
use Rattle.typst_candidates.proofs.Spans.{wides-more}
use Rattle.typst_candidates.proofs.Words.{few}
use Rattle.typst_candidates.proofs.entries.beside.Goals as goal

pub overflow_add-count : goal.overflow_add-count
overflow_add-count c = grind (arith, wides-more, few)

pub loop-from-preserved : goal.loop-from-preserved
loop-from-preserved c = record { within = grind arith; count = grind (arith, wides-more) }
