use Rattle.typst_grammar.proofs.grammar.+knot.Given as goal

abbrev pub decreases-call_markup_expr : goal.decreases-call_markup_expr
decreases-call_markup_expr g l = l.levels

abbrev pub decreases-call_code_expr : goal.decreases-call_code_expr
decreases-call_code_expr g l = l.levels

abbrev pub decreases-call_math_expr : goal.decreases-call_math_expr
decreases-call_math_expr g l = l.levels

abbrev pub decreases-call_pattern : goal.decreases-call_pattern
decreases-call_pattern g l = l.levels
