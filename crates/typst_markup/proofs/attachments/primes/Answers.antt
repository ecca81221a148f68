use Rattle.typst_markup.proofs.Cited.{does-next, does-gives, asks-yes, asks-no, primes, is_in}
use Rattle.typst_markup.proofs.attachments.primes.Goals as goal

pub returns-then-is_in : goal.returns-then-is_in
unfolding primes
returns-then-is_in g c l h = does-next (c.in_ok-eat.ensures l h) (asks-yes (is_in c.args.stops) c.current.ensures c.is_in.ensures c.if-is_in.true does-gives)

pub returns : goal.returns
unfolding primes
returns g c l h = does-next (c.in_ok-eat.ensures l h) (asks-no (is_in c.args.stops) c.current.ensures c.is_in.ensures c.if-is_in.false (c.in_ok-attachments.ensures l h))
