use Rattle.typst_markup.proofs.Cited.{ap, ◌∙◌, map, seen, does-seeing, does-next, does-gives, does-value, key_of, argument_name}
use Rattle.typst_markup.proofs.math_arguments.argument_name.Goals as goal

pub returns : goal.returns
unfolding argument_name
returns g c l h =
    does-next (does-seeing h.sound c.marker-from.ensures.few c.marker-from.ensures.marker (c.in_ok-eat_name.ensures l h) c.in_ok-change.ensures)
    (does-value (c.in_ok-key_of.ensures ∙ ap (λ ts. key_of (map seen ts)) c.given_since.ensures) does-gives)
