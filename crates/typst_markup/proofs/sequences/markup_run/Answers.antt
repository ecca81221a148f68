use Rattle.typst_markup.proofs.Cited.{does-next, does-gives, does-look, does-too-deep, does-deeper, first-noted, markup_run}
use Rattle.typst_markup.proofs.sequences.markup_run.Goals as goal

pub returns-then-levels-eq0 : goal.returns-then-levels-eq0
unfolding markup_run
returns-then-levels-eq0 g c l h =
    does-too-deep h c.levels.ensures c.if-levels-eq0.true (does-next (does-look (c.in_ok-look.ensures l h)) (c.in_ok-too_deep.ensures l h))

pub returns : goal.returns
unfolding markup_run
returns g c l h =
    does-deeper h c.levels.ensures c.if-levels-eq0.false
    (does-next (first-noted c.in_ok-note_here.ensures h.levels) (does-next (does-look (c.in_ok-look-2.ensures l h)) (does-next (c.in_ok-markup_turns.ensures l h) does-gives)))
