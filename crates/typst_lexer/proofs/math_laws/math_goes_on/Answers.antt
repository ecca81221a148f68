use Rattle.typst_lexer.proofs.Eats.{math-eats}
use Rattle.typst_lexer.proofs.math_laws.math_goes_on.Goals as goal

pub returns : goal.returns
returns c = math-eats
