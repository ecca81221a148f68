use Rattle.typst_code.proofs.Cited.{Level, bytes_left, Fills, Turning, group_turn}
use Rattle.typst_code.proofs.groups.group_items.Given as goal

abbrev pub invariant-turns : goal.invariant-turns
invariant-turns g l = (v : Level) → Fills v (g.L.Levels.frame l.g) → Turning v group_turn l.fn.items l.fn.p l.items l.p

abbrev pub decreases-turns : goal.decreases-turns
decreases-turns g l = bytes_left l.p.place
