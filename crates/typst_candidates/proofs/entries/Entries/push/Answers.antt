use Rattle.std.proofs.Common.{arith}
use Rattle.typst_candidates.proofs.Tallies.{tally-append}
use Rattle.typst_candidates.proofs.Words.{push-word, push-word-kept}
use Rattle.typst_candidates.proofs.entries.Entries.push.Goals as goal

pub invariant_of-self-2 : goal.invariant_of-self-2
invariant_of-self-2 c = grind (arith, push-word-kept, tally-append)

pub returns-clause-ok : goal.returns-clause-ok
returns-clause-ok c = grind (arith, push-word)
