use Rattle.typst_code.proofs.Cited.{sym, becomes, does-next, does-node, unary_expr}
use Rattle.typst_kinds.specs.declared.kind.SyntaxKind.TheVariants as kind
use Rattle.typst_code.proofs.expressions.unary_expr.Goals as goal

pub returns : goal.returns
unfolding unary_expr
returns g c l h =
    does-node (λ _. becomes kind.Unary) h.sound c.marker-from.ensures.few c.marker-from.ensures.marker
    (does-next (c.in_ok-eat.ensures l h) (rw (sym c.precedence.ensures) (c.in_ok-deeper_code_expr.ensures l h))) c.in_ok-wrap.ensures.wrapped
