use Rattle.typst_tokens.proofs.CodeEats.{code-eats}
use Rattle.typst_tokens.proofs.code_laws.code_goes_on.Goals as goal

pub returns : goal.returns
returns c = code-eats
