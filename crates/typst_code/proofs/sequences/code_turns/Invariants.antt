use Rattle.typst_code.proofs.Cited.{Level, bytes_left, Fills, Turning, code_turn, stops_at}
use Rattle.typst_code.proofs.sequences.code_turns.Given as goal

abbrev pub invariant-turns : goal.invariant-turns
invariant-turns g l = (v : Level) → Fills v (g.L.Levels.frame l.g) → Turning v (code_turn (stops_at l.stop)) tt l.fn.p tt l.p

abbrev pub decreases-turns : goal.decreases-turns
decreases-turns g l = bytes_left l.p.place
