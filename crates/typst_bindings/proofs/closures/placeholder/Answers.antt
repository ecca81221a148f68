use Rattle.typst_bindings.proofs.Cited.{◌∙◌, ap, does-next, does-gives, does-node, does-peek, does-value, placeholder, after_underscore, underscore_shape, closure_shape}
use Rattle.typst_bindings.proofs.closures.placeholder.Goals as goal

pub returns : goal.returns
unfolding placeholder
returns g c l h =
    does-next (does-node closure_shape h.sound c.marker-from.ensures.few c.marker-from.ensures.marker
    (does-next (does-node underscore_shape h.sound c.marker-from.ensures.few c.marker-from.ensures.marker
    (does-next (c.in_ok-eat.ensures l h) (does-next (does-peek _) (does-value (c.after_underscore-after.ensures ∙ ap after_underscore c.current.ensures) does-gives)))
    c.in_ok-wrap_underscore.ensures)
    (does-next (c.in_ok-right_side.ensures l h) does-gives))
    c.in_ok-wrap_closure.ensures) does-gives
