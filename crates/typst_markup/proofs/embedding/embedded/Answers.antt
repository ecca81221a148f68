use Rattle.typst_markup.proofs.Cited.{embedded, embedded_reading, does-next, does-entered}
use Rattle.typst_markup.proofs.embedding.embedded.Goals as goal

pub returns : goal.returns
unfolding embedded
returns g c l h =
    does-entered (λ _. embedded_reading) c.enter-outer.ensures.view (does-next (c.in_ok-eat.ensures l h) (c.in_ok-embedded_expr.ensures l h))
    c.enter-outer.ensures.outer (c.in_ok-leave.ensures l h)
