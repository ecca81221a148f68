use Rattle.typst_kinds.specs.declared.kind.SyntaxKind.TheVariants as kind
use Rattle.typst_code.proofs.Cited.{becomes, does-next, does-node, ◌∙◌, ap, does-peek, func_return, begins_code}
use Rattle.typst_code.proofs.statements.func_return.Goals as goal

pub returns : goal.returns
unfolding func_return
returns g c l h = does-node (λ _. becomes kind.FuncReturn) h.sound c.marker-from.ensures.few c.marker-from.ensures.marker (does-next (c.in_ok-eat.ensures l h) (does-next (does-peek _) (rw (c.begins_code.ensures ∙ ap begins_code c.current.ensures) at c.in_ok-expression_if.ensures l h))) c.in_ok-wrap.ensures.wrapped
