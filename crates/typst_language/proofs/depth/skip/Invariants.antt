use Rattle.typst_language.proofs.Cited.{Level, skip_one, bytes_left, Fills}
use Rattle.typst_language.proofs.Steps.{Turning}
use Rattle.typst_language.proofs.depth.skip.Given as goal

abbrev pub invariant-turns : goal.invariant-turns
invariant-turns g l = (v : Level) → Fills v (g.L.Levels.frame l.g) → Turning v (skip_one (g.S.Stops.at l.stops)) 0 l.fn.p l.count l.p

abbrev pub decreases-turns : goal.decreases-turns
decreases-turns g l = bytes_left l.p.place
