use Rattle.std.proofs.Common.{arith}
use Rattle.typst_tokens.proofs.SpelledNumbers.{with_digit-sum}
use Rattle.typst_tokens.proofs.sets.with_digit.Goals as goal

pub returns : goal.returns
returns c = grind (arith, with_digit-sum)
