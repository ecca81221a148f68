use Rattle.typst_kinds.specs.declared.kind.SyntaxKind.TheVariants as kind
use Rattle.typst_code.proofs.Cited.{becomes, does-node, code}
use Rattle.typst_code.proofs.sequences.code.Goals as goal

pub returns : goal.returns
unfolding code
returns g c l h = does-node (λ _. becomes kind.Code) h.sound c.marker-from.ensures.few c.marker-from.ensures.marker (c.in_ok-code_exprs.ensures l h) c.in_ok-wrap.ensures.wrapped
