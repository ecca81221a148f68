use Rattle.typst_code.proofs.Cited.{Level, bytes_left, Fills, Grows, code_primary, code_tail_turn, Blocks}
use Rattle.typst_code.proofs.expressions.code_expr.Given as goal

abbrev pub invariant-turns : goal.invariant-turns
invariant-turns g l = (v : Level) → Fills v (g.L.Levels.frame l.g) → Blocks v → Grows v (code_primary l.atomic) (code_tail_turn l.atomic l.least) l.from l.fn.p tt l.p

abbrev pub decreases-turns : goal.decreases-turns
decreases-turns g l = bytes_left l.p.place
