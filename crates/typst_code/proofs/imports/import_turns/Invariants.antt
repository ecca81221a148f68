use Rattle.typst_code.proofs.Cited.{Level, bytes_left, Fills, Turning, import_turn}
use Rattle.typst_code.proofs.imports.import_turns.Given as goal

abbrev pub invariant-turns : goal.invariant-turns
invariant-turns g l = (v : Level) → Fills v (g.L.Levels.frame l.g) → Turning v import_turn tt l.fn.p tt l.p

abbrev pub decreases-turns : goal.decreases-turns
decreases-turns g l = bytes_left l.p.place
