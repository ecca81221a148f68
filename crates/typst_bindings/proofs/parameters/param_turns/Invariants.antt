use Rattle.typst_bindings.proofs.Cited.{Level, Fills, Turning, param_turn, bytes_left}
use Rattle.typst_bindings.proofs.parameters.param_turns.Given as goal

abbrev pub invariant-turns : goal.invariant-turns
invariant-turns g l = (v : Level) → Fills v (g.L.Levels.frame l.g) → Turning v param_turn l.fn.so_far l.fn.p l.so_far l.p

abbrev pub decreases-turns : goal.decreases-turns
decreases-turns g l = bytes_left l.p.place
