use Rattle.typst_markup.proofs.Cited.{becomes, item, at_newline, does-next, does-node, does-entered}
use Rattle.typst_language.specs.declared.reading.AtNewline.TheVariants as newline
use Rattle.typst_markup.proofs.expressions.item.Goals as goal

pub returns : goal.returns
unfolding item
returns g c l h =
    does-next (c.current_column-column.ensures l)
    (does-entered (at_newline (newline.RequireColumn c.current_column-column.result)) c.enter_rule-outer.ensures.view
    (does-node (λ _. becomes c.args.kind) h.sound c.marker-from.ensures.few c.marker-from.ensures.marker (does-next (c.in_ok-eat.ensures l h) (c.in_ok-markup.ensures l h)) c.in_ok-wrap.ensures.wrapped)
    c.enter_rule-outer.ensures.outer (c.in_ok-leave.ensures l h))
