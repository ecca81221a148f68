use Rattle.std.proofs.Common.{arith}
use Rattle.typst_candidates.proofs.Words.{unpacked-length}
use Rattle.typst_candidates.proofs.entries.Entries.tally_at.Goals as goal

pub passed_at-passed-requires-clause-within : goal.passed_at-passed-requires-clause-within
passed_at-passed-requires-clause-within c = grind (arith, unpacked-length)

pub invariant_of-self : goal.invariant_of-self
invariant_of-self c = (c.self.invariant.0, record { within = grind (arith, unpacked-length); passed = grind arith })
