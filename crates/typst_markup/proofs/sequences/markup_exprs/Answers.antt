use Rattle.typst_markup.proofs.Cited.{markup_exprs, does-next, does-gives, does-peek, does-too-deep, does-deeper}
use Rattle.typst_markup.proofs.sequences.markup_exprs.Goals as goal

pub returns-then-levels-eq0 : goal.returns-then-levels-eq0
unfolding markup_exprs
returns-then-levels-eq0 g c l h = does-too-deep h c.levels.ensures c.if-levels-eq0.true (c.in_ok-too_deep.ensures l h)

pub returns : goal.returns
unfolding markup_exprs
returns g c l h =
    does-deeper h c.levels.ensures c.if-levels-eq0.false
    (does-next (does-peek _) (does-next (rw c.had_newline.ensures at c.in_ok-markup_turns.ensures l h) does-gives))
