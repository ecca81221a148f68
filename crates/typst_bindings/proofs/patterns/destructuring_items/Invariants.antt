use Rattle.typst_bindings.proofs.Cited.{Level, Fills, Turning, destructuring_turn, bytes_left}
use Rattle.typst_bindings.proofs.patterns.destructuring_items.Given as goal

abbrev pub invariant-turns : goal.invariant-turns
invariant-turns g l = (v : Level) → Fills v (g.L.Levels.frame l.g) → Turning v (destructuring_turn l.role) l.fn.found l.fn.p l.found l.p

abbrev pub decreases-turns : goal.decreases-turns
decreases-turns g l = bytes_left l.p.place
