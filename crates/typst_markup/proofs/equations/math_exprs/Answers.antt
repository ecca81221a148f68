use Rattle.typst_markup.proofs.Cited.{math_exprs, does-next, does-gives, does-too-deep, does-deeper}
use Rattle.typst_markup.proofs.equations.math_exprs.Goals as goal

pub returns-then-levels-eq0 : goal.returns-then-levels-eq0
unfolding math_exprs
returns-then-levels-eq0 g c l h = does-too-deep h c.levels.ensures c.if-levels-eq0.true (does-next (c.in_ok-too_deep.ensures l h) does-gives)

pub returns : goal.returns
unfolding math_exprs
returns g c l h = does-deeper h c.levels.ensures c.if-levels-eq0.false (c.in_ok-math_turns.ensures l h)
