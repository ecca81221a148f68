use Rattle.typst_features.proofs.Cited.{arith, strip_suffix_char}
use Rattle.typst_features.proofs.LabelNames.{stripped_last}
use Rattle.typst_features.proofs.naming.before_closing.Goals as goal

pub returns : goal.returns
returns c = stripped_last 62 c.args.text.now c.strip_suffix.result (strip_suffix_char 62 c.args.text.now c.strip_suffix.result c.strip_suffix.ensures.cases (omega arith))
