use Rattle.typst_markup.proofs.Cited.{ap, true, does-next, does-gives, math_turn, math_stops_at, asks-yes, asks-no, does-value}
use Rattle.typst_markup.proofs.equations.math_turn.Goals as goal

pub returns-then-has : goal.returns-then-has
unfolding math_turn
returns-then-has g c l h = asks-yes (math_stops_at c.args.stop) c.current.ensures c.has.ensures c.if-has.true does-gives

pub returns : goal.returns
unfolding math_turn
returns g c l h =
    asks-no (math_stops_at c.args.stop) c.current.ensures c.has.ensures c.if-has.false
    (does-next (c.in_ok-math_item.ensures l h) (does-value (ap (λ n. (true, n)) c.saturating_add.ensures) does-gives))
