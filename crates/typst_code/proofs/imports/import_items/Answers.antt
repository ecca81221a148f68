use Rattle.typst_kinds.specs.declared.kind.SyntaxKind.TheVariants as kind
use Rattle.typst_code.proofs.Cited.{becomes, does-node, import_items}
use Rattle.typst_code.proofs.imports.import_items.Goals as goal

pub returns : goal.returns
unfolding import_items
returns g c l h = does-node (λ _. becomes kind.ImportItems) h.sound c.marker-from.ensures.few c.marker-from.ensures.marker (c.in_ok-import_turns.ensures l h) c.in_ok-wrap.ensures.wrapped
