use Rattle.typst_code.proofs.Cited.{Level, bytes_left, Fills, Turning, Blocks, content_turn}
use Rattle.typst_code.proofs.arguments.content_turns.Given as goal

abbrev pub invariant-turns : goal.invariant-turns
invariant-turns g l = (v : Level) → Fills v (g.L.Levels.frame l.g) → Blocks v → Turning v content_turn tt l.fn.p tt l.p

abbrev pub decreases-turns : goal.decreases-turns
decreases-turns g l = bytes_left l.p.place
