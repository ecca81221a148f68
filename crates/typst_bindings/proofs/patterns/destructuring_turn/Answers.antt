use Rattle.typst_bindings.proofs.Cited.{ap, true, is_terminator, does-next, does-gives, does-pick, does-other, found, asks-yes, asks-no, does-value, destructuring_turn, begins_part}
use Rattle.typst_bindings.proofs.patterns.destructuring_turn.Goals as goal

pub returns-then-is_terminator : goal.returns-then-is_terminator
unfolding destructuring_turn
returns-then-is_terminator g c l h = asks-yes is_terminator c.current.ensures c.is_terminator.ensures c.if-is_terminator.true does-gives

pub returns-then-not-begins_part : goal.returns-then-not-begins_part
unfolding destructuring_turn
returns-then-not-begins_part g c l h =
    asks-no is_terminator c.current.ensures c.is_terminator.ensures c.if-is_terminator.false
    (does-other (found begins_part c.current-2.ensures c.begins_part.ensures c.if-not-begins_part.true) (does-next (c.in_ok-unexpected.ensures l h) does-gives))

pub returns : goal.returns
unfolding destructuring_turn
returns g c l h =
    asks-no is_terminator c.current.ensures c.is_terminator.ensures c.if-is_terminator.false
    (does-pick (found begins_part c.current-2.ensures c.begins_part.ensures c.if-not-begins_part.false)
    (does-next (c.in_ok-more.ensures l h) (does-next (c.in_ok-comma.ensures l h) (does-value (ap (λ i. (true, (i, c.in_ok-more.seen))) c.with_comma.ensures) does-gives))))
