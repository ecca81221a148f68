use Rattle.typst_language.proofs.Cited.{common_steps, arith}
use Rattle.typst_language.proofs.parser.Parser.restore.Goals as goal

pub returns : goal.returns
returns c = grind (arith, common_steps)
