use Rattle.typst_kinds.specs.declared.kind.SyntaxKind.TheVariants as kind
use Rattle.typst_markup.proofs.Cited.{becomes, heading, at_newline, does-next, does-node, does-entered}
use Rattle.typst_language.specs.declared.reading.AtNewline.TheVariants as newline
use Rattle.typst_markup.proofs.expressions.heading.Goals as goal

pub returns : goal.returns
unfolding heading
returns g c l h =
    does-entered (at_newline newline.Stop) c.enter_rule-outer.ensures.view
    (does-node (λ _. becomes kind.Heading) h.sound c.marker-from.ensures.few c.marker-from.ensures.marker (does-next (c.in_ok-eat.ensures l h) (c.in_ok-markup.ensures l h)) c.in_ok-wrap.ensures.wrapped)
    c.enter_rule-outer.ensures.outer (c.in_ok-leave.ensures l h)
