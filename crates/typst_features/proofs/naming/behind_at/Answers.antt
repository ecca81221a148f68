use Rattle.typst_features.proofs.Cited.{arith, strip_prefix_char}
use Rattle.typst_features.proofs.LabelNames.{stripped_first}
use Rattle.typst_features.proofs.naming.behind_at.Goals as goal

pub returns : goal.returns
returns c = stripped_first 64 c.args.text.now c.strip_prefix.result (strip_prefix_char 64 c.args.text.now c.strip_prefix.result c.strip_prefix.ensures.cases (omega arith))
