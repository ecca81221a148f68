use Rattle.typst_kinds.specs.declared.kind.SyntaxKind.TheVariants as kind
use Rattle.typst_code.proofs.Cited.{becomes, does-next, does-node, ◌∙◌, ap, same, set_rule}
use Rattle.typst_code.proofs.statements.set_rule.Goals as goal

pub returns : goal.returns
unfolding set_rule
returns g c l h b = does-node (λ _. becomes kind.SetRule) h.sound c.marker-from.ensures.few c.marker-from.ensures.marker (does-next (c.in_ok-eat.ensures l h) (does-next (c.in_ok-target.ensures l h) (does-next (c.in_ok-arguments.ensures l h b) (does-next (c.in_ok-conditional.ensures (same kind.If) (c.eq.ensures ∙ ap (same kind.If) c.current.ensures) l h) (c.in_ok-expression_if.ensures l h))))) c.in_ok-wrap.ensures.wrapped
