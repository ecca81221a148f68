use Rattle.typst_kinds.specs.declared.kind.SyntaxKind.TheVariants as kind
use Rattle.typst_markup.proofs.Cited.{becomes, reference, does-next, does-node}
use Rattle.typst_markup.proofs.references.reference.Goals as goal

pub returns : goal.returns
unfolding reference
returns g c l h b =
    does-node (λ _. becomes kind.Ref) h.sound c.marker-from.ensures.few c.marker-from.ensures.marker (does-next (c.in_ok-eat.ensures l h) (c.in_ok-direct_content.ensures l h b)) c.in_ok-wrap.ensures.wrapped
