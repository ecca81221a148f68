use Rattle.typst_markup.proofs.Cited.{refl, sym, math_expression}
use Rattle.typst_markup.proofs.equations.math_expression.Goals as goal

pub returns : goal.returns
unfolding math_expression
returns g c l h = rw (sym c.no_signs.ensures) (c.in_ok-deeper_math_expr.ensures l h)
