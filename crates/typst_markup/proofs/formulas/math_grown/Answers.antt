use Rattle.typst_markup.proofs.Cited.{refl, arith, math_grown, grows-init, grows-next, grows-stuck, grows-last}
use Rattle.typst_markup.proofs.formulas.math_grown.Goals as goal

pub turns-init : goal.turns-init
turns-init g c l h = grows-init h.sound c.marker-from.ensures.few c.marker-from.ensures.marker (c.in_ok-callee.ensures l h)

pub turns-preserved : goal.turns-preserved
turns-preserved g c l h = grows-next h.sound (c.turns.invariant l h) (rw c.in-Some.is at (c.in_ok-grown.ensures l h)) c.in_ok-wrap_grown.ensures (let goes = c.goes_on.ensures.goes c.if-not-goes_on.false in omega arith)

pub returns-then-not-goes_on : goal.returns-then-not-goes_on
unfolding math_grown
returns-then-not-goes_on g c l h = grows-stuck h.sound (c.turns.invariant l h) (rw c.in-Some.is at (c.in_ok-grown.ensures l h)) c.in_ok-wrap_grown.ensures (let stuck = c.goes_on.ensures.stops c.if-not-goes_on.true refl in omega arith)

pub returns-in_default : goal.returns-in_default
unfolding math_grown
returns-in_default g c l h = grows-last h.sound (c.turns.invariant l h) (rw c.in_default.is at (c.in_ok-grown.ensures l h))
