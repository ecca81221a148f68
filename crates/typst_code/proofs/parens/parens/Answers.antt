use Rattle.typst_code.proofs.Cited.{does-next, does-gives, does-node, does-value, parens}
use Rattle.typst_bindings.specs.Closures.{closure_shape}
use Rattle.typst_code.proofs.parens.parens.Goals as goal

pub returns : goal.returns
unfolding parens
returns g c l h b =
    does-next (does-node closure_shape h.sound c.marker-from.ensures.few c.marker-from.ensures.marker
    (does-next (c.in_ok-after.ensures l h b) (does-next (c.in_ok-came.ensures l h) (does-next (c.in_ok-expression_if.ensures l h) (does-value c.after_if.ensures does-gives))))
    c.in_ok-wrap_closure.ensures) does-gives
