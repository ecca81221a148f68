use Rattle.std.proofs.Common.{arith}
use Rattle.typst_candidates.proofs.Rounds.{one-more-round}
use Rattle.typst_candidates.proofs.Spans.{spans-more}
use Rattle.typst_candidates.proofs.entries.spans.Goals as goal

pub loop-from-preserved : goal.loop-from-preserved
loop-from-preserved c = record { within = grind arith; sum = grind (arith, one-more-round, spans-more) }
