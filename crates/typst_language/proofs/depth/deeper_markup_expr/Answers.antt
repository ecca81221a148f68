use Rattle.typst_language.proofs.Cited.{deeper}
use Rattle.typst_language.proofs.Steps.{does-next, does-gives, does-too-deep, does-deeper, does-calls}
use Rattle.typst_language.proofs.depth.deeper_markup_expr.Goals as goal

pub returns-then-levels-eq0 : goal.returns-then-levels-eq0
unfolding deeper
returns-then-levels-eq0 g c l h = does-too-deep h c.levels.ensures c.if-levels-eq0.true (does-next (c.in_ok-too_deep.ensures l h) does-gives)

pub returns : goal.returns
unfolding deeper
returns g c l h = does-deeper h c.levels.ensures c.if-levels-eq0.false (does-calls (h.reads _ _ _ _ c.in_ok-markup_expr.ensures))
