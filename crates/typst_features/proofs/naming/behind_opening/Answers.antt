use Rattle.typst_features.proofs.Cited.{arith, strip_prefix_char}
use Rattle.typst_features.proofs.LabelNames.{stripped_first}
use Rattle.typst_features.proofs.naming.behind_opening.Goals as goal

pub returns : goal.returns
returns c = stripped_first 60 c.args.text.now c.strip_prefix.result (strip_prefix_char 60 c.args.text.now c.strip_prefix.result c.strip_prefix.ensures.cases (omega arith))
