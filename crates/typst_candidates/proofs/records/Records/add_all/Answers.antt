use Rattle.typst_candidates.proofs.Cited.{common_steps, arith}
use Rattle.typst_candidates.proofs.Walks.{add-step, last-step, fits-at}
use Rattle.typst_candidates.proofs.records.Records.add_all.Goals as goal

pub loop-note-preserved : goal.loop-note-preserved
loop-note-preserved c = grind (arith, common_steps, add-step, last-step, fits-at)
