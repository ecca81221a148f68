use Rattle.std.proofs.Common.{rules}
use Rattle.typst_markup.proofs.math_heads.precedence.Goals as goal

pub returns-in-Factorial : goal.returns-in-Factorial
returns-in-Factorial c = search rules
