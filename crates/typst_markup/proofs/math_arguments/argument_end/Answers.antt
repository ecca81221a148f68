use Rattle.typst_markup.proofs.Cited.{does-gives, does-pick, does-other, separates, ends_list, found, asks-yes, asks-no, argument_end}
use Rattle.typst_markup.proofs.math_arguments.argument_end.Goals as goal

pub returns-then-separates : goal.returns-then-separates
unfolding argument_end
returns-then-separates g c l h = asks-yes separates c.current.ensures c.separates.ensures c.if-separates.true (c.in_ok-eat.ensures l h)

pub returns-then-ends_list : goal.returns-then-ends_list
unfolding argument_end
returns-then-ends_list g c l h =
    asks-no separates c.current.ensures c.separates.ensures c.if-separates.false
    (does-pick (found ends_list c.current-2.ensures c.ends_list.ensures c.if-ends_list.true) does-gives)

pub returns : goal.returns
unfolding argument_end
returns g c l h =
    asks-no separates c.current.ensures c.separates.ensures c.if-separates.false
    (does-other (found ends_list c.current-2.ensures c.ends_list.ensures c.if-ends_list.false) (c.in_ok-expected.ensures l h))
