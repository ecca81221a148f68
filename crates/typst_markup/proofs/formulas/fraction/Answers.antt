use Rattle.typst_markup.proofs.Cited.{sym, does-next, fraction}
use Rattle.typst_markup.proofs.formulas.fraction.Goals as goal

pub returns : goal.returns
unfolding fraction
returns g c l h = does-next (c.in_ok-eat.ensures l h) (rw (sym c.no_signs.ensures) (c.in_ok-operand.ensures l h))
