use Rattle.typst_tokens.proofs.PairBits.{tables-tell}
use Rattle.typst_tokens.proofs.markup_sets.passes_before.Goals as goal

pub returns : goal.returns
returns c = tables-tell c.args.c c.args.next c.ranges.c.fits c.ranges.next.fits
