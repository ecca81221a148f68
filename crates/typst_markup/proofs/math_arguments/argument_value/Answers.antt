use Rattle.typst_markup.proofs.Cited.{does-next, does-gives, does-node, argument_value, value_shape}
use Rattle.typst_markup.proofs.math_arguments.argument_value.Goals as goal

pub returns : goal.returns
unfolding argument_value
returns g c l h = does-next (does-node value_shape h.sound c.marker-from.ensures.few c.marker-from.ensures.marker (c.in_ok-count.ensures l h) c.in_ok-wrap_value.ensures) does-gives
