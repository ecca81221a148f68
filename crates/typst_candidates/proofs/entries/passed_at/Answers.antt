use Rattle.std.proofs.Common.{◌-◌, refl, arith}
use Rattle.typst_candidates.proofs.Spans.{wides-more}
use Rattle.typst_candidates.proofs.Words.{few}
use Rattle.typst_candidates.proofs.entries.passed_at.Goals as goal

pub overflow_add-result : goal.overflow_add-result
overflow_add-result c = let from = c.upto-from.ensures.same c.args.words.now c.args.words.now c.requires.tally refl c.requires.within in grind (arith, wides-more, few)

pub returns : goal.returns
returns c = let n = c.upto-from.result.number in grind (arith, wides-more c.args.words.now n (c.args.number - n))
