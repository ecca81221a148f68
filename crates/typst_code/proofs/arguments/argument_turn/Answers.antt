use Rattle.typst_code.proofs.Cited.{is_terminator, does-next, does-gives, does-pick, does-other, found, asks-yes, asks-no, argument_turn, begins_item}
use Rattle.typst_code.proofs.arguments.argument_turn.Goals as goal

pub returns-then-is_terminator : goal.returns-then-is_terminator
unfolding argument_turn
returns-then-is_terminator g c l h = asks-yes is_terminator c.current.ensures c.is_terminator.ensures c.if-is_terminator.true does-gives

pub returns-then-not-begins_item : goal.returns-then-not-begins_item
unfolding argument_turn
returns-then-not-begins_item g c l h =
    asks-no is_terminator c.current.ensures c.is_terminator.ensures c.if-is_terminator.false
    (does-other (found begins_item c.current-2.ensures c.begins_item.ensures c.if-not-begins_item.true) (does-next (c.in_ok-unexpected.ensures l h) does-gives))

pub returns : goal.returns
unfolding argument_turn
returns g c l h =
    asks-no is_terminator c.current.ensures c.is_terminator.ensures c.if-is_terminator.false
    (does-pick (found begins_item c.current-2.ensures c.begins_item.ensures c.if-not-begins_item.false)
    (does-next (c.in_ok-more.ensures l h) (does-next (c.in_ok-separator.ensures l h) does-gives)))
