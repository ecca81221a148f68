use Rattle.std.proofs.Common.{arith}
use Rattle.typst_candidates.proofs.Cursors.{cut, entry_steps}
use Rattle.typst_candidates.proofs.records.Records.closing.Goals as goal

pub returns-in_err-entry : goal.returns-in_err-entry
returns-in_err-entry c = grind (arith, entry_steps)

pub returns-in_default : goal.returns-in_default
returns-in_default c = grind (arith, entry_steps)

pub loop-entry-smaller : goal.loop-entry-smaller
loop-entry-smaller c = grind (arith, entry_steps)

pub loop-entry-preserved : goal.loop-entry-preserved
loop-entry-preserved c = record { entries = grind arith; within = grind arith; later = grind (arith, cut) }
