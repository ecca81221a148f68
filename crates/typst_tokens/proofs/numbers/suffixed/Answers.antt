use Rattle.std.proofs.Common.{arith}
use Rattle.typst_tokens.proofs.Digits.{suffixed-is}
use Rattle.typst_tokens.proofs.numbers.suffixed.Goals as goal

pub returns : goal.returns
returns c = grind (arith, suffixed-is)
