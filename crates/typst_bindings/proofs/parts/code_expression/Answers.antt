use Rattle.typst_bindings.proofs.parts.code_expression.Goals as goal

pub returns : goal.returns
returns g c l h = c.in_ok-deeper_code_expr.ensures l h
