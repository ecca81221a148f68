use Rattle.typst_bindings.proofs.Cited.{arith, turning-next, does-last}
use Rattle.typst_bindings.proofs.parameters.param_turns.Goals as goal

pub returns-then-not-goes_on : goal.returns-then-not-goes_on
returns-then-not-goes_on g c l h =
    (c.turns.invariant l h).rest c.in_ok-more.next c.param_turn.new.p (does-last h.sound (c.in_ok-more.ensures l h) (λ more. let stuck = c.goes_on.ensures.stops c.if-not-goes_on.true more in omega arith))

pub turns-preserved : goal.turns-preserved
turns-preserved g c l h =
    let goes = c.goes_on.ensures.goes c.if-not-goes_on.false in
    turning-next h.sound (c.turns.invariant l h) (rw goes.0 at c.in_ok-more.ensures l h) (omega arith)
