use Rattle.typst_code.proofs.Cited.{Level, bytes_left, Fills, Grows, target_turn, ◌>>◌, gives}
use Rattle.typst_language.specs.Expected.{expect_identifier}
use Rattle.typst_code.proofs.statements.target.Given as goal

abbrev pub invariant-turns : goal.invariant-turns
invariant-turns g l = (v : Level) → Fills v (g.L.Levels.frame l.g) → Grows v (expect_identifier >> gives tt) target_turn l.from l.fn.p tt l.p

abbrev pub decreases-turns : goal.decreases-turns
decreases-turns g l = bytes_left l.p.place
