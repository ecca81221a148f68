use Rattle.typst_markup.proofs.Cited.{Level, math_argument_turn, bytes_left, Fills, Turning}
use Rattle.typst_markup.proofs.math_arguments.math_argument_turns.Given as goal

abbrev pub invariant-turns : goal.invariant-turns
invariant-turns g l = (v : Level) → Fills v (g.L.Levels.frame l.g) → Turning v math_argument_turn l.fn.names l.fn.p l.names l.p

abbrev pub decreases-turns : goal.decreases-turns
decreases-turns g l = bytes_left l.p.place
