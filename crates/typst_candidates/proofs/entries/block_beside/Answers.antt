use Rattle.typst_candidates.proofs.Cited.{◌≤◌, Option, arith, Entry, beside}
use Rattle.typst_candidates.proofs.Words.{few, one-more}
use Rattle.typst_candidates.proofs.entries.block_beside.Goals as goal

single : (o : Option Entry) → beside o ≤ 1
single o = grind arith

pub overflow_add-count : goal.overflow_add-count
overflow_add-count c = grind (arith, few, single)

pub loop-word-preserved : goal.loop-word-preserved
loop-word-preserved c = grind (arith, one-more)
