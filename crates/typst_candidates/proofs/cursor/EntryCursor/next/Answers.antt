use Rattle.std.proofs.Common.{arith}
use Rattle.typst_candidates.proofs.Cursors.{entry_steps}
use Rattle.typst_candidates.proofs.cursor.EntryCursor.next.Goals as goal

pub overflow_add-self : goal.overflow_add-self
overflow_add-self c = grind (arith, entry_steps)

pub overflow_add-self-2 : goal.overflow_add-self-2
overflow_add-self-2 c = grind (arith, entry_steps)

pub invariant_of-self-2 : goal.invariant_of-self-2
invariant_of-self-2 c = grind (arith, entry_steps)
