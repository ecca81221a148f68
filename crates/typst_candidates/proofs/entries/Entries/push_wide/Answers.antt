use Rattle.std.proofs.Common.{arith}
use Rattle.typst_candidates.proofs.Tallies.{tally-append}
use Rattle.typst_candidates.proofs.Words.{push-wide, push-wide-kept}
use Rattle.typst_candidates.proofs.entries.Entries.push_wide.Goals as goal

pub invariant_of-self-2 : goal.invariant_of-self-2
invariant_of-self-2 c = grind (arith, push-wide-kept, tally-append)

pub returns-clause-ok : goal.returns-clause-ok
returns-clause-ok c = grind (arith, push-wide)
