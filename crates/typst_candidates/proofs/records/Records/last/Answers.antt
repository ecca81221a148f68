use Rattle.std.proofs.Common.{arith}
use Rattle.typst_candidates.proofs.Cursors.{cut, end-after, entry_steps, nothing-left}
use Rattle.typst_candidates.proofs.records.Records.last.Goals as goal

pub returns-in_err-checked_add-clause-none : goal.returns-in_err-checked_add-clause-none
returns-in_err-checked_add-clause-none c = λ none. grind (arith, cut, end-after)

pub returns-in_err-at-clause-none : goal.returns-in_err-at-clause-none
returns-in_err-at-clause-none c = λ none. grind (arith, cut, end-after)

pub loop-entry-smaller : goal.loop-entry-smaller
loop-entry-smaller c = grind (arith, entry_steps)

pub loop-entry-preserved : goal.loop-entry-preserved
loop-entry-preserved c = record { entries = grind arith; later = grind (arith, cut) }

pub returns-clause-some : goal.returns-clause-some
returns-clause-some c = grind (arith, nothing-left)
