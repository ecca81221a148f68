use Rattle.typst_code.proofs.Cited.{refl, arith, grows-init, grows-next, grows-stuck, grows-last, does-next, does-gives, target}
use Rattle.typst_code.proofs.statements.target.Goals as goal

pub turns-init : goal.turns-init
turns-init g c l h = grows-init h.sound c.marker-from.ensures.few c.marker-from.ensures.marker (does-next (c.in_ok-expect_identifier.ensures l h) does-gives)

pub turns-preserved : goal.turns-preserved
turns-preserved g c l h = grows-next h.sound (c.turns.invariant l h) (rw c.in-Some.is at (c.in_ok-kind.ensures.means l h)) c.in_ok-wrap.ensures.wrapped (let goes = c.goes_on.ensures.goes c.if-not-goes_on.false in omega arith)

pub returns-then-not-goes_on : goal.returns-then-not-goes_on
unfolding target
returns-then-not-goes_on g c l h = grows-stuck h.sound (c.turns.invariant l h) (rw c.in-Some.is at (c.in_ok-kind.ensures.means l h)) c.in_ok-wrap.ensures.wrapped (let stuck = c.goes_on.ensures.stops c.if-not-goes_on.true refl in omega arith)

pub returns-in_default : goal.returns-in_default
unfolding target
returns-in_default g c l h = grows-last h.sound (c.turns.invariant l h) (rw c.in_default.is at (c.in_ok-kind.ensures.means l h))
