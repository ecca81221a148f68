use Rattle.typst_markup.proofs.Cited.{ap, ◌∙◌, does-next, does-gives, does-node, does-peek, is_closer, does-value, delimited_body, body_shape}
use Rattle.typst_markup.proofs.delimited.delimited_body.Goals as goal

pub returns : goal.returns
unfolding delimited_body
returns g c l h =
    does-node body_shape h.sound c.marker-from.ensures.few c.marker-from.ensures.marker
    (does-next (c.in_ok-math_exprs.ensures l h) (does-next (does-peek _) (does-value (c.is_closer-closed.ensures ∙ ap is_closer c.current.ensures) does-gives)))
    c.in_ok-wrap_body.ensures
