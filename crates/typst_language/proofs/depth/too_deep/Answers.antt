use Rattle.typst_language.proofs.Cited.{codes, fails, too_deep, Continue}
use Rattle.typst_language.proofs.Steps.{does-next, does-gives, does-node, does-within}
use Rattle.typst_language.proofs.depth.too_deep.Goals as goal

pub returns : goal.returns
unfolding too_deep
returns g c l h =
    does-next (does-node (λ _. fails (codes "maximum parsing depth exceeded")) h.sound c.marker-from.ensures.few c.marker-from.ensures.marker
    (does-within (λ r. record r { at_newline = Continue }) (rw c.enter_rule-outer.ensures.view at (c.in_ok-skip.ensures l h)) (rw c.enter_rule-outer.ensures.outer at (c.in_ok-leave.ensures l h)))
    c.in_ok-wrap_error.ensures) does-gives
