use Rattle.typst_bindings.proofs.parts.atomic_expression.Goals as goal

pub returns : goal.returns
returns g c l h = c.in_ok-deeper_code_expr.ensures l h
