use Rattle.typst_language.proofs.Cited.{rules, less}
use Rattle.typst_language.proofs.nodes.trim.Goals as goal

pub returns : goal.returns
unfolding less
returns c = search rules
