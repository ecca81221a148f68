use Rattle.std.proofs.lemmas.Grind.{common_steps}
use Rattle.typst_code.proofs.Cited.{arith, conditional, nests-next, nests-last}
use Rattle.typst_code.proofs.statements.conditional.Goals as goal

pub returns-then-not-goes_on : goal.returns-then-not-goes_on
unfolding conditional
returns-then-not-goes_on g c l h b =
    rw (c.in_ok-wrap_nested.ensures, c.in_ok-push.ensures.items)
    (nests-last h.sound (c.turns.invariant l h b) c.marker.ensures.few c.marker.ensures.marker (c.in_ok-more.ensures l h b) (λ more. let stuck = c.goes_on.ensures.stops c.if-not-goes_on.true more in omega arith))

pub turns-preserved : goal.turns-preserved
turns-preserved g c l h b = grind (arith, common_steps, nests-next)
