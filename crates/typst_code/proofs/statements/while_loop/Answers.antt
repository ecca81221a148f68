use Rattle.typst_kinds.specs.declared.kind.SyntaxKind.TheVariants as kind
use Rattle.typst_code.proofs.Cited.{becomes, does-next, does-node, while_loop}
use Rattle.typst_code.proofs.statements.while_loop.Goals as goal

pub returns : goal.returns
unfolding while_loop
returns g c l h b = does-node (λ _. becomes kind.WhileLoop) h.sound c.marker-from.ensures.few c.marker-from.ensures.marker (does-next (does-next (c.in_ok-eat.ensures l h) (c.in_ok-code_expression.ensures l h)) (c.in_ok-any_block.ensures l h b)) c.in_ok-wrap.ensures.wrapped
