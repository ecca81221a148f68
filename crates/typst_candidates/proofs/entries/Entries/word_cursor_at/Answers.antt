use Rattle.std.proofs.Common.{arith}
use Rattle.typst_candidates.proofs.Words.{unpacked-length}
use Rattle.typst_candidates.proofs.entries.Entries.word_cursor_at.Goals as goal

pub passed_at-requires-clause-within : goal.passed_at-requires-clause-within
passed_at-requires-clause-within c = grind (arith, unpacked-length)

pub invariant_of-result : goal.invariant_of-result
invariant_of-result c = (grind (arith, unpacked-length), grind arith, grind arith)
