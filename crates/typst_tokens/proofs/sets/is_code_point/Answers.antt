use Rattle.typst_tokens.proofs.Cited.{arith, nat_tests}
use Rattle.typst_tokens.proofs.SpelledNumbers.{some-chars, no-chars}
use Rattle.typst_tokens.proofs.sets.is_code_point.Goals as goal

pub returns-then-not-is_empty : goal.returns-then-not-is_empty
returns-then-not-is_empty c = grind (arith, nat_tests, some-chars)

pub returns-else-not-is_empty : goal.returns-else-not-is_empty
returns-else-not-is_empty c = grind (arith, nat_tests, no-chars)
