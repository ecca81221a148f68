use Rattle.typst_kinds.specs.declared.kind.SyntaxKind.TheVariants as kind
use Rattle.typst_markup.proofs.Cited.{holds, does-next, does-gives, does-node, named_argument, name_change}
use Rattle.typst_markup.proofs.math_arguments.named_argument.Goals as goal

pub returns : goal.returns
unfolding named_argument
returns g c l h =
    does-node (λ key. holds (name_change c.args.names.now key) kind.Named) h.sound c.marker-from.ensures.few c.marker-from.ensures.marker
    (does-next (c.in_ok-key.ensures l h) (does-next (c.in_ok-convert_and_eat.ensures l h) (does-next (c.in_ok-argument_value.ensures l h) does-gives)))
    c.in_ok-wrap_argument.ensures
