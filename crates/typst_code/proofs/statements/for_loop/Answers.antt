use Rattle.typst_code.proofs.Cited.{◌∙◌, ap, same, becomes, does-next, does-node, for_loop}
use Rattle.typst_kinds.specs.declared.kind.SyntaxKind.TheVariants as kind
use Rattle.typst_code.proofs.statements.for_loop.Goals as goal

pub returns : goal.returns
unfolding for_loop
returns g c l h b =
    let is = same kind.In in
    does-node (λ _. becomes kind.ForLoop) h.sound c.marker-from.ensures.few c.marker-from.ensures.marker
    (does-next (does-next (does-next (does-next (c.in_ok-eat.ensures l h) (c.in_ok-loop_names.ensures l h)) (c.in_ok-expect.ensures is (c.eq.ensures ∙ ap is c.current.ensures) l h)) (c.in_ok-code_expression.ensures l h)) (c.in_ok-any_block.ensures l h b))
    c.in_ok-wrap.ensures.wrapped
