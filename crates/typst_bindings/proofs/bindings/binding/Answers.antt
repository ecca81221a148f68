use Rattle.typst_bindings.proofs.Cited.{does-next, does-gives, does-node, binding, bound_shape}
use Rattle.typst_bindings.proofs.bindings.binding.Goals as goal

pub returns : goal.returns
unfolding binding
returns g c l h =
    does-next (does-node bound_shape h.sound c.marker-from.ensures.few c.marker-from.ensures.marker
    (does-next (c.in_ok-bound.ensures l h) (does-next (c.in_ok-comes.ensures l h) (does-next (c.in_ok-expression_if.ensures l h) does-gives)))
    c.in_ok-wrap_bound.ensures) does-gives
