use Rattle.typst_code.proofs.Cited.{does-next, does-gives, asks-yes, asks-no, missing_arguments, opens_arguments}
use Rattle.typst_code.proofs.arguments.missing_arguments.Goals as goal

pub returns-in_ok-hint : goal.returns-in_ok-hint
unfolding missing_arguments
returns-in_ok-hint g c l h =
    does-next (c.in_ok-expected.ensures l h) (asks-yes opens_arguments c.current.ensures c.opens_arguments.ensures c.if-opens_arguments.true (c.in_ok-hint.ensures l))

pub returns-else-opens_arguments : goal.returns-else-opens_arguments
unfolding missing_arguments
returns-else-opens_arguments g c l h =
    does-next (c.in_ok-expected.ensures l h) (asks-no opens_arguments c.current.ensures c.opens_arguments.ensures c.if-opens_arguments.false does-gives)
