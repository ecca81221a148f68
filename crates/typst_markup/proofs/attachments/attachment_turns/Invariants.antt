use Rattle.typst_markup.proofs.Cited.{Level, attachment_turn, both_signs, bytes_left, Fills, Turning}
use Rattle.typst_markup.proofs.attachments.attachment_turns.Given as goal

abbrev pub invariant-turns : goal.invariant-turns
invariant-turns g l = (v : Level) → Fills v (g.L.Levels.frame l.g) → Turning v attachment_turn both_signs l.fn.p l.signs l.p

abbrev pub decreases-turns : goal.decreases-turns
decreases-turns g l = bytes_left l.p.place
