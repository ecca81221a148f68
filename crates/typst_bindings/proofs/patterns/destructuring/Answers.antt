use Rattle.typst_bindings.proofs.Cited.{◌∙◌, ap, sym, same, does-next, does-gives, does-node, does-entered, encloses, in_parens, destructuring, parts_kind}
use Rattle.typst_kinds.specs.declared.kind.SyntaxKind.TheVariants as kind
use Rattle.typst_bindings.proofs.patterns.destructuring.Goals as goal

pub returns : goal.returns
unfolding destructuring
returns g c l h =
    let closer = same kind.RightParen in
    does-next (does-node (λ x. encloses (parts_kind x.1.0) x.0) h.sound c.marker-from.ensures.few c.marker-from.ensures.marker
    (does-entered in_parens c.enter_rule-outer.ensures.view
    (does-next (c.in_ok-eat.ensures l h) (does-next (rw (c.role_below.ensures, c.none.ensures) at c.in_ok-parts.ensures l h)
    (does-next (c.in_ok-closed.ensures closer (c.eq.ensures ∙ ap closer c.current.ensures) l h) does-gives)))
    c.enter_rule-outer.ensures.outer (c.in_ok-leave.ensures l h))
    (rw (sym c.kind.ensures.kind) c.in_ok-wrap_enclosed.ensures)) does-gives
