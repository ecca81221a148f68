use Rattle.typst_code.proofs.Cited.{◌∙◌, ap, sym, same, does-next, does-gives, does-node, at_newline, does-entered, does-value, group, group_rest, group_shape}
use Rattle.typst_kinds.specs.declared.kind.SyntaxKind.TheVariants as kind
use Rattle.typst_language.specs.declared.reading.AtNewline.TheVariants as newline
use Rattle.typst_code.proofs.groups.group.Goals as goal

pub returns : goal.returns
unfolding group group_rest
returns g c l h =
    let colon = same kind.Colon in
    let closer = same kind.RightParen in
    does-next (does-node group_shape h.sound c.marker-from.ensures.few c.marker-from.ensures.marker
    (does-entered (at_newline newline.Continue) c.enter_rule-outer.ensures.view
    (does-next (c.in_ok-eat.ensures l h) (does-next (c.in_ok-colon.ensures colon (c.eq.ensures ∙ ap colon c.current.ensures) l h)
    (does-next (rw c.new.ensures at c.in_ok-items.ensures l h) (does-next (c.in_ok-closed.ensures closer (c.eq-2.ensures ∙ ap closer c.current-2.ensures) l h) does-gives))))
    c.enter_rule-outer.ensures.outer (c.in_ok-leave.ensures l h))
    (rw (sym c.kind-kind.ensures.kind) c.in_ok-wrap_enclosed.ensures)) (does-value c.kind-kind.ensures.kind does-gives)
