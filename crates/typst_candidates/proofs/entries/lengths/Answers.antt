use Rattle.std.proofs.Common.{arith}
use Rattle.typst_candidates.proofs.Rounds.{two-more}
use Rattle.typst_candidates.proofs.Spans.{lengths-next}
use Rattle.typst_candidates.proofs.entries.lengths.Goals as goal

pub loop-entry-preserved : goal.loop-entry-preserved
loop-entry-preserved c = grind (arith, two-more, lengths-next)
