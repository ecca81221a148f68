use Rattle.typst_highlight.proofs.Cited.{arith, common_steps}
use Rattle.typst_highlight.proofs.page.Writer.write_parts.Goals as goal

pub returns : goal.returns
returns c = grind (arith, common_steps)
