use Rattle.typst_kinds.specs.declared.kind.SyntaxKind.TheVariants as kind
use Rattle.typst_bindings.proofs.Cited.{becomes, does-next, does-node, let_binding}
use Rattle.typst_bindings.proofs.bindings.let_binding.Goals as goal

pub returns : goal.returns
unfolding let_binding
returns g c l h = does-node (λ _. becomes kind.LetBinding) h.sound c.marker-from.ensures.few c.marker-from.ensures.marker (does-next (c.in_ok-eat.ensures l h) (c.in_ok-binding.ensures l h)) c.in_ok-wrap.ensures.wrapped
