use Rattle.typst_markup.proofs.Cited.{◌∙◌, ap, same, becomes, term_item, at_newline, does-next, does-node, does-entered}
use Rattle.typst_kinds.specs.declared.kind.SyntaxKind.TheVariants as kind
use Rattle.typst_language.specs.declared.reading.AtNewline.TheVariants as newline
use Rattle.typst_markup.proofs.expressions.term_item.Goals as goal

pub returns : goal.returns
unfolding term_item
returns g c l h =
    let term = does-entered (at_newline newline.Stop) c.enter_rule-item.ensures.view (does-next (c.in_ok-eat.ensures l h) (c.in_ok-markup.ensures l h)) c.enter_rule-item.ensures.outer (c.in_ok-leave.ensures l h) in
    does-next (c.current_column-column.ensures l)
    (does-entered (at_newline (newline.RequireColumn c.current_column-column.result)) c.enter_rule-outer.ensures.view
    (does-node (λ _. becomes kind.TermItem) h.sound c.marker-from.ensures.few c.marker-from.ensures.marker
    (does-next term (does-next (c.in_ok-expect.ensures (same kind.Colon) (c.eq.ensures ∙ ap (same kind.Colon) c.current.ensures) l h) (c.in_ok-markup-2.ensures l h))) c.in_ok-wrap.ensures.wrapped)
    c.enter_rule-outer.ensures.outer (c.in_ok-leave-2.ensures l h))
