use Rattle.typst_lexer.proofs.Leaves.{raw-leaves}
use Rattle.typst_lexer.proofs.raw_laws.raw_leaves_law.Goals as goal

pub returns : goal.returns
returns c = raw-leaves
