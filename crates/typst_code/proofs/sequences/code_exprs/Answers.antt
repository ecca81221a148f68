use Rattle.typst_code.proofs.Cited.{code_exprs, does-too-deep, does-deeper}
use Rattle.typst_code.proofs.sequences.code_exprs.Goals as goal

pub returns-then-levels-eq0 : goal.returns-then-levels-eq0
unfolding code_exprs
returns-then-levels-eq0 g c l h = does-too-deep h c.levels.ensures c.if-levels-eq0.true (c.in_ok-too_deep.ensures l h)

pub returns : goal.returns
unfolding code_exprs
returns g c l h = does-deeper h c.levels.ensures c.if-levels-eq0.false (c.in_ok-code_turns.ensures l h)
