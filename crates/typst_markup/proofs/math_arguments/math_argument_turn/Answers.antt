use Rattle.typst_markup.proofs.Cited.{does-next, does-gives, ends_list, asks-yes, asks-no, math_argument_turn}
use Rattle.typst_markup.proofs.math_arguments.math_argument_turn.Goals as goal

pub returns-then-ends_list : goal.returns-then-ends_list
unfolding math_argument_turn
returns-then-ends_list g c l h = asks-yes ends_list c.current.ensures c.ends_list.ensures c.if-ends_list.true does-gives

pub returns : goal.returns
unfolding math_argument_turn
returns g c l h = asks-no ends_list c.current.ensures c.ends_list.ensures c.if-ends_list.false (does-next (c.in_ok-more.ensures l h) (does-next (c.in_ok-argument_end.ensures l h) does-gives))
