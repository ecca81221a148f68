use Rattle.typst_kinds.specs.declared.kind.SyntaxKind.TheVariants as kind
use Rattle.typst_markup.proofs.Cited.{becomes, does-next, does-node, spread_argument}
use Rattle.typst_markup.proofs.math_arguments.spread_argument.Goals as goal

pub returns : goal.returns
unfolding spread_argument
returns g c l h =
    does-node (λ _. becomes kind.Spread) h.sound c.marker-from.ensures.few c.marker-from.ensures.marker
    (does-next (c.in_ok-eat_so.ensures l h) (c.in_ok-argument_value.ensures l h)) c.in_ok-wrap.ensures.wrapped
