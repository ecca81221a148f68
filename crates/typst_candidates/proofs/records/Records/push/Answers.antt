use Rattle.typst_candidates.proofs.Cited.{common_steps, arith}
use Rattle.typst_candidates.proofs.Anchors.{anchor-append}
use Rattle.typst_candidates.proofs.Rounds.{two-more}
use Rattle.typst_candidates.proofs.Walks.{end-append}
use Rattle.typst_candidates.proofs.records.Records.push.Goals as goal

pub invariant_of-self-2 : goal.invariant_of-self-2
invariant_of-self-2 c = grind (arith, common_steps, end-append, two-more, anchor-append)
