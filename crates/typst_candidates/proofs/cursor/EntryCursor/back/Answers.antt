use Rattle.std.proofs.Common.{arith}
use Rattle.typst_candidates.proofs.Cursors.{entry_steps, end-step}
use Rattle.typst_candidates.proofs.cursor.EntryCursor.back.Goals as goal

pub overflow_add-self : goal.overflow_add-self
overflow_add-self c = grind (arith, entry_steps)

pub overflow_sub-self : goal.overflow_sub-self
overflow_sub-self c = grind (arith, entry_steps)

pub invariant_of-self : goal.invariant_of-self
invariant_of-self c = grind (arith, entry_steps)

pub invariant_of-self-2 : goal.invariant_of-self-2
invariant_of-self-2 c = (grind (arith, end-step), grind arith)
