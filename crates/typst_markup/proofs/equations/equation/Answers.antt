use Rattle.typst_kinds.specs.declared.kind.SyntaxKind.TheVariants as kind
use Rattle.typst_markup.proofs.Cited.{encloses, does-next, does-gives, does-node, equation}
use Rattle.typst_markup.proofs.equations.equation.Goals as goal

pub returns : goal.returns
unfolding equation
returns g c l h = does-next (does-node (encloses kind.Equation) h.sound c.marker-from.ensures.few c.marker-from.ensures.marker (c.in_ok-closed.ensures l h) c.in_ok-wrap_enclosed.ensures) does-gives
