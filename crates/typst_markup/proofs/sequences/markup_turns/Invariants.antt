use Rattle.typst_markup.proofs.Cited.{Level, bytes_left, Fills, Turning, markup_turn, stops_at}
use Rattle.typst_markup.proofs.sequences.markup_turns.Given as goal

abbrev pub invariant-turns : goal.invariant-turns
invariant-turns g l = (v : Level) → Fills v (g.L.Levels.frame l.g) → Turning v (markup_turn l.is_run (stops_at l.stop)) (l.fn.at_start, 0) l.fn.p l.carried l.p

abbrev pub decreases-turns : goal.decreases-turns
decreases-turns g l = bytes_left l.p.place
