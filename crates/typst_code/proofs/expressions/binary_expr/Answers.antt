use Rattle.typst_code.proofs.Cited.{sym, does-next, does-gives, binary_expr}
use Rattle.typst_code.proofs.expressions.binary_expr.Goals as goal

pub returns-clause-means : goal.returns-clause-means
unfolding binary_expr
returns-clause-means g c l h = does-next (c.in_ok-eat.ensures l h) (does-next (rw (sym c.operand_least.ensures) (c.in_ok-deeper_code_expr.ensures l h)) does-gives)
