use Rattle.typst_markup.proofs.Cited.{among, math_item, asks-yes, asks-no}
use Rattle.typst_kinds.specs.Sets.{math_expr as begins}
use Rattle.typst_markup.proofs.equations.math_item.Goals as goal

pub returns-then-begins_math : goal.returns-then-begins_math
unfolding math_item
returns-then-begins_math g c l h = asks-yes (among begins) c.current.ensures c.begins_math.ensures c.if-begins_math.true (c.in_ok-math_expression.ensures l h)

pub returns : goal.returns
unfolding math_item
returns g c l h = asks-no (among begins) c.current.ensures c.begins_math.ensures c.if-begins_math.false (c.in_ok-unexpected.ensures l h)
