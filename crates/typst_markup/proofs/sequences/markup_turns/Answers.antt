use Rattle.typst_markup.proofs.Cited.{arith, turning-next, does-last}
use Rattle.typst_markup.proofs.sequences.markup_turns.Goals as goal

pub returns-then-not-goes_on : goal.returns-then-not-goes_on
returns-then-not-goes_on g c l h =
    (c.turns.invariant l h).rest c.in_ok-more.next c.markup_turn.new.p (does-last h.sound (c.in_ok-more.ensures l h) (λ more. let stuck = c.goes_on.ensures.stops c.if-not-goes_on.true more in omega arith))

pub turns-preserved : goal.turns-preserved
turns-preserved g c l h = grind (arith, turning-next)
