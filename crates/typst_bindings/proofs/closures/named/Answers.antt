use Rattle.typst_bindings.proofs.Cited.{◌∙◌, ap, does-next, does-gives, does-node, does-peek, does-value, named, after_name, name_shape, closure_shape}
use Rattle.typst_bindings.proofs.closures.named.Goals as goal

pub returns : goal.returns
unfolding named
returns g c l h =
    does-next (does-node closure_shape h.sound c.marker-from.ensures.few c.marker-from.ensures.marker
    (does-next (does-node name_shape h.sound c.marker-from.ensures.few c.marker-from.ensures.marker
    (does-next (c.in_ok-eat.ensures l h) (does-next (does-peek _) (does-value (c.after_name-after.ensures ∙ ap after_name c.current.ensures) does-gives)))
    c.in_ok-wrap_name.ensures)
    (does-next (c.in_ok-right_side.ensures l h) does-gives))
    c.in_ok-wrap_closure.ensures) does-gives
