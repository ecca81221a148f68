use Rattle.typst_bindings.proofs.Cited.{is_terminator, does-next, does-gives, does-pick, does-other, found, asks-yes, asks-no, param_turn, begins_param}
use Rattle.typst_bindings.proofs.parameters.param_turn.Goals as goal

pub returns-then-is_terminator : goal.returns-then-is_terminator
unfolding param_turn
returns-then-is_terminator g c l h = asks-yes is_terminator c.current.ensures c.is_terminator.ensures c.if-is_terminator.true does-gives

pub returns-then-not-begins_param : goal.returns-then-not-begins_param
unfolding param_turn
returns-then-not-begins_param g c l h =
    asks-no is_terminator c.current.ensures c.is_terminator.ensures c.if-is_terminator.false
    (does-other (found begins_param c.current-2.ensures c.begins_param.ensures c.if-not-begins_param.true) (does-next (c.in_ok-unexpected.ensures l h) does-gives))

pub returns : goal.returns
unfolding param_turn
returns g c l h =
    asks-no is_terminator c.current.ensures c.is_terminator.ensures c.if-is_terminator.false
    (does-pick (found begins_param c.current-2.ensures c.begins_param.ensures c.if-not-begins_param.false)
    (does-next (c.in_ok-more.ensures l h) (does-next (c.in_ok-separator.ensures l h) does-gives)))
