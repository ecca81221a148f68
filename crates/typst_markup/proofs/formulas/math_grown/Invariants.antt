use Rattle.typst_markup.proofs.Cited.{Level, bytes_left, Fills, math_primary, math_tail_turn, Grows}
use Rattle.typst_markup.proofs.formulas.math_grown.Given as goal

abbrev pub invariant-turns : goal.invariant-turns
invariant-turns g l = (v : Level) → Fills v (g.L.Levels.frame l.g) → Grows v (math_primary (g.L.Levels.frame l.g).classes) (math_tail_turn l.least l.stops) l.from l.fn.p l.callee l.p

abbrev pub decreases-turns : goal.decreases-turns
decreases-turns g l = bytes_left l.p.place
