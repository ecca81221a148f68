use Rattle.typst_kinds.specs.declared.kind.SyntaxKind.TheVariants as kind
use Rattle.typst_code.proofs.Cited.{becomes, does-next, does-node, import_path}
use Rattle.typst_code.proofs.imports.import_path.Goals as goal

pub returns : goal.returns
unfolding import_path
returns g c l h = does-node (λ _. becomes kind.ImportItemPath) h.sound c.marker-from.ensures.few c.marker-from.ensures.marker (does-next (c.in_ok-import_name.ensures l h) (c.in_ok-path_turns.ensures l h)) c.in_ok-wrap.ensures.wrapped
