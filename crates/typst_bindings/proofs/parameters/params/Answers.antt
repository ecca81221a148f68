use Rattle.typst_bindings.proofs.Cited.{◌∙◌, ap, same, does-next, does-gives, does-node, does-entered, encloses, in_parens, params}
use Rattle.typst_kinds.specs.declared.kind.SyntaxKind.TheVariants as kind
use Rattle.typst_bindings.proofs.parameters.params.Goals as goal

pub returns : goal.returns
unfolding params
returns g c l h =
    let closer = same kind.RightParen in
    does-next (does-node (encloses kind.Params) h.sound c.marker-from.ensures.few c.marker-from.ensures.marker
    (does-entered in_parens c.enter_rule-outer.ensures.view
    (does-next (c.in_ok-eat.ensures l h) (does-next (rw c.new.ensures at c.in_ok-param_turns.ensures l h)
    (c.in_ok-closed.ensures closer (c.eq.ensures ∙ ap closer c.current.ensures) l h)))
    c.enter_rule-outer.ensures.outer (c.in_ok-leave.ensures l h))
    c.in_ok-wrap_enclosed.ensures) does-gives
