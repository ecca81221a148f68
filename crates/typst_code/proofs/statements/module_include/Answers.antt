use Rattle.typst_kinds.specs.declared.kind.SyntaxKind.TheVariants as kind
use Rattle.typst_code.proofs.Cited.{becomes, does-next, does-node, module_include}
use Rattle.typst_code.proofs.statements.module_include.Goals as goal

pub returns : goal.returns
unfolding module_include
returns g c l h = does-node (λ _. becomes kind.ModuleInclude) h.sound c.marker-from.ensures.few c.marker-from.ensures.marker (does-next (c.in_ok-eat.ensures l h) (c.in_ok-code_expression.ensures l h)) c.in_ok-wrap.ensures.wrapped
