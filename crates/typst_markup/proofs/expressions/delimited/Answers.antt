use Rattle.typst_markup.proofs.Cited.{◌∙◌, ap, same, does-next, does-gives, does-node, does-entered}
use Rattle.typst_language.specs.declared.reading.AtNewline.TheVariants as newline
use Rattle.typst_markup.specs.Markup.{delimited, at_newline, emphasized}
use Rattle.typst_markup.proofs.expressions.delimited.Goals as goal

pub returns : goal.returns
unfolding delimited
returns g c l h =
    let is = same c.args.delimiter in
    does-entered (at_newline newline.StopParBreak) c.enter_rule-outer.ensures.view
    (does-next (does-node (emphasized c.args.kind c.args.warning.now c.args.hint.now) h.sound c.marker-from.ensures.few c.marker-from.ensures.marker
    (does-next (c.in_ok-eat.ensures l h) (does-next (c.in_ok-is_empty.ensures l h) (does-next (c.in_ok-closed.ensures is (c.eq.ensures ∙ ap is c.current.ensures) l h) does-gives)))
    c.in_ok-wrap_emphasized.ensures) does-gives)
    c.enter_rule-outer.ensures.outer (c.in_ok-leave.ensures l h)
