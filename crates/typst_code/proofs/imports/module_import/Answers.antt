use Rattle.typst_code.proofs.Cited.{◌∙◌, ap, same, becomes, does-next, does-node, module_import}
use Rattle.typst_kinds.specs.declared.kind.SyntaxKind.TheVariants as kind
use Rattle.typst_code.proofs.imports.module_import.Goals as goal

pub returns : goal.returns
unfolding module_import
returns g c l h = does-node (λ _. becomes kind.ModuleImport) h.sound c.marker-from.ensures.few c.marker-from.ensures.marker (does-next (c.in_ok-eat.ensures l h) (does-next (c.in_ok-code_expression.ensures l h) (does-next (c.in_ok-renaming.ensures l h) (does-next (c.in_ok-colon.ensures (same kind.Colon) (c.eq.ensures ∙ ap (same kind.Colon) c.current.ensures) l h) (c.in_ok-imported_if.ensures l h))))) c.in_ok-wrap.ensures.wrapped
