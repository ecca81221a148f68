use Rattle.typst_markup.proofs.Cited.{does-next, does-gives, math_expr}
use Rattle.typst_markup.proofs.formulas.math_expr.Goals as goal

pub returns : goal.returns
unfolding math_expr
returns g c l h = does-next (c.in_ok-math_grown.ensures l h) does-gives
