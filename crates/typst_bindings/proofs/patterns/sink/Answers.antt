use Rattle.typst_bindings.proofs.Cited.{does-next, does-gives, asks-yes, asks-no, sink, begins_leaf}
use Rattle.typst_bindings.proofs.patterns.sink.Goals as goal

pub returns-then-not-begins_leaf : goal.returns-then-not-begins_leaf
unfolding sink
returns-then-not-begins_leaf g c l h = does-next (c.in_ok-eat.ensures l h) (asks-no begins_leaf c.current.ensures c.begins_leaf.ensures c.if-not-begins_leaf.true does-gives)

pub returns : goal.returns
unfolding sink
returns g c l h = does-next (c.in_ok-eat.ensures l h) (asks-yes begins_leaf c.current.ensures c.begins_leaf.ensures c.if-not-begins_leaf.false (c.in_ok-pattern_leaf.ensures l h))
