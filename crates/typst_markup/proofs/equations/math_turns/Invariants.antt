use Rattle.typst_markup.proofs.Cited.{Level, math_turn, math_stops_at, bytes_left, Fills, Turning}
use Rattle.typst_markup.proofs.equations.math_turns.Given as goal

abbrev pub invariant-turns : goal.invariant-turns
invariant-turns g l = (v : Level) → Fills v (g.L.Levels.frame l.g) → Turning v (math_turn (math_stops_at l.stop)) 0 l.fn.p l.count l.p

abbrev pub decreases-turns : goal.decreases-turns
decreases-turns g l = bytes_left l.p.place
