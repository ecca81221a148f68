use Rattle.typst_markup.proofs.Cited.{refl, keeps, does-node, operand, unparened}
use Rattle.typst_markup.proofs.attachments.operand.Goals as goal

pub returns : goal.returns
unfolding operand
returns g c l h = does-node (λ _. keeps unparened) h.sound c.marker-from.ensures.few c.marker-from.ensures.marker (c.in_ok-deeper_math_expr.ensures l h) c.in_ok-change.ensures
