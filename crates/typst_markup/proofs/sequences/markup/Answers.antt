use Rattle.typst_kinds.specs.declared.kind.SyntaxKind.TheVariants as kind
use Rattle.typst_markup.proofs.Cited.{becomes, markup, does-node}
use Rattle.typst_markup.proofs.sequences.markup.Goals as goal

pub returns : goal.returns
unfolding markup
returns g c l h = does-node (λ _. becomes kind.Markup) h.sound c.marker-from.ensures.few c.marker-from.ensures.marker (c.in_ok-markup_exprs.ensures l h) c.in_ok-wrap.ensures.wrapped
