use Rattle.typst_markup.proofs.Cited.{does-next, does-gives, does-node, delimited, delimited_shape}
use Rattle.typst_markup.proofs.delimited.delimited.Goals as goal

pub returns : goal.returns
unfolding delimited
returns g c l h =
    does-next (does-node delimited_shape h.sound c.marker-from.ensures.few c.marker-from.ensures.marker
    (does-next (c.in_ok-delimiter.ensures l h) (does-next (c.in_ok-closed.ensures l h) (does-next (c.in_ok-delimiter_if.ensures l h) does-gives)))
    c.in_ok-wrap_delimited.ensures) does-gives
