use Rattle.typst_bindings.proofs.Cited.{sym, ◌∙◌, is_keyword, does-next, does-gives, does-pick, does-other, found, asks-yes, asks-no, pattern_leaf, begins_leaf}
use Rattle.typst_bindings.proofs.patterns.pattern_leaf.Goals as goal

pub returns-then-is_keyword : goal.returns-then-is_keyword
unfolding pattern_leaf
returns-then-is_keyword g c l h = asks-yes is_keyword c.current.ensures c.is_keyword.ensures c.if-is_keyword.true (does-next (c.in_ok-eat_wanted.ensures l h) does-gives)

pub returns-then-not-begins_leaf : goal.returns-then-not-begins_leaf
unfolding pattern_leaf
returns-then-not-begins_leaf g c l h =
    asks-no is_keyword c.current.ensures c.is_keyword.ensures c.if-is_keyword.false
    (does-other (found begins_leaf c.current-2.ensures c.begins_leaf.ensures c.if-not-begins_leaf.true) (does-next (c.in_ok-expected.ensures l h) does-gives))

pub returns-then-is_target : goal.returns-then-is_target
unfolding pattern_leaf
returns-then-is_target g c l h =
    asks-no is_keyword c.current.ensures c.is_keyword.ensures c.if-is_keyword.false
    (does-pick (found begins_leaf c.current-2.ensures c.begins_leaf.ensures c.if-not-begins_leaf.false)
    (does-pick (sym c.is_target.ensures ∙ c.if-is_target.true) (does-next (c.in_ok-atomic_expression.ensures l h) does-gives)))

pub returns : goal.returns
unfolding pattern_leaf
returns g c l h =
    asks-no is_keyword c.current.ensures c.is_keyword.ensures c.if-is_keyword.false
    (does-pick (found begins_leaf c.current-2.ensures c.begins_leaf.ensures c.if-not-begins_leaf.false)
    (does-other (sym c.is_target.ensures ∙ c.if-is_target.false) (c.in_ok-bound_name.ensures l h)))
