use Rattle.typst_code.proofs.Cited.{◌∙◌, ap, not, same, does-next, does-gives, does-peek, does-node, show_rule, show_shape}
use Rattle.typst_kinds.specs.declared.kind.SyntaxKind.TheVariants as kind
use Rattle.typst_code.proofs.statements.show_rule.Goals as goal

pub returns : goal.returns
unfolding show_rule
returns g c l h =
    let colon = same kind.Colon in
    does-next (does-node show_shape h.sound c.marker-from.ensures.few c.marker-from.ensures.marker
    (does-next (c.in_ok-eat.ensures l h) (does-next (does-peek _) (does-next (rw (c.ne.ensures ∙ ap (λ k. not (colon k)) c.current.ensures) at c.in_ok-expression_if.ensures l h)
    (does-next (c.in_ok-colon.ensures colon (c.eq.ensures ∙ ap colon c.current-2.ensures) l h) (does-next (c.in_ok-expression_if-2.ensures l h) does-gives)))))
    c.in_ok-wrap_show.ensures) does-gives
