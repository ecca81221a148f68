use Rattle.typst_markup.proofs.Cited.{sym, becomes, does-next, does-node, root}
use Rattle.typst_kinds.specs.declared.kind.SyntaxKind.TheVariants as kind
use Rattle.typst_markup.proofs.formulas.root.Goals as goal

pub returns : goal.returns
unfolding root
returns g c l h =
    does-node (λ _. becomes kind.MathRoot) h.sound c.marker-from.ensures.few c.marker-from.ensures.marker
    (does-next (c.in_ok-eat.ensures l h) (rw (sym c.no_signs.ensures) (c.in_ok-operand.ensures l h))) c.in_ok-wrap.ensures.wrapped
