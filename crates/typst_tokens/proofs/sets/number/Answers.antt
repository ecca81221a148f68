use Rattle.typst_tokens.proofs.Cited.{sym, ◌∙◌, arith, place}
use Rattle.typst_tokens.proofs.SpelledNumbers.{number_from-more, number_from-none, number_from-end, number_from-start, with_digit-fits}
use Rattle.typst_tokens.proofs.sets.number.Goals as goal

pub loop-c-init : goal.loop-c-init
loop-c-init c = grind (arith, number_from-start)

pub loop-c-preserved : goal.loop-c-preserved
loop-c-preserved c = grind (arith, number_from-more, with_digit-fits)

pub returns-in-None : goal.returns-in-None
returns-in-None c = grind (arith, number_from-none)

pub returns : goal.returns
returns c = sym (number_from-end c.args.base c.loop-c.value (place c.loop-c.s) c.loop-c.invariant.fits c.in_default.ensures.next) ∙ c.loop-c.invariant.reads
