use Rattle.std.proofs.Common.{arith}
use Rattle.typst_candidates.proofs.Cursors.{cut, entry_steps}
use Rattle.typst_candidates.proofs.cursor.EntryCursor.piece_after.Goals as goal

pub returns-in_err-entry : goal.returns-in_err-entry
returns-in_err-entry c = grind (arith, entry_steps)

pub returns-then-leads : goal.returns-then-leads
returns-then-leads c = grind (arith, entry_steps)

pub returns-in_err-inside : goal.returns-in_err-inside
returns-in_err-inside c = grind (arith, entry_steps)

pub loop-entry-smaller : goal.loop-entry-smaller
loop-entry-smaller c = grind (arith, entry_steps)

pub loop-entry-preserved : goal.loop-entry-preserved
loop-entry-preserved c = record { entries = grind arith; within = grind arith; later = grind (arith, cut) }
