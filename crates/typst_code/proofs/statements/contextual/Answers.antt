use Rattle.typst_kinds.specs.declared.kind.SyntaxKind.TheVariants as kind
use Rattle.typst_code.proofs.Cited.{becomes, does-next, does-node, contextual}
use Rattle.typst_code.proofs.statements.contextual.Goals as goal

pub returns : goal.returns
unfolding contextual
returns g c l h = does-node (λ _. becomes kind.Contextual) h.sound c.marker-from.ensures.few c.marker-from.ensures.marker (does-next (c.in_ok-eat.ensures l h) (c.in_ok-deeper_code_expr.ensures l h)) c.in_ok-wrap.ensures.wrapped
