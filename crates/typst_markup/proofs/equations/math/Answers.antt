use Rattle.typst_kinds.specs.declared.kind.SyntaxKind.TheVariants as kind
use Rattle.typst_markup.proofs.Cited.{becomes, does-next, does-gives, does-node, math}
use Rattle.typst_markup.proofs.equations.math.Goals as goal

pub returns : goal.returns
unfolding math
returns g c l h = does-node (λ _. becomes kind.Math) h.sound c.marker-from.ensures.few c.marker-from.ensures.marker (does-next (c.in_ok-math_exprs.ensures l h) does-gives) c.in_ok-wrap.ensures.wrapped
