use Rattle.typst_code.proofs.Cited.{same, asks-yes, asks-no, import_name}
use Rattle.typst_kinds.specs.declared.kind.SyntaxKind.TheVariants as kind
use Rattle.typst_code.proofs.imports.import_name.Goals as goal

pub returns-then-eq : goal.returns-then-eq
unfolding import_name
returns-then-eq g c l h = asks-yes (same kind.Ident) c.current.ensures c.eq.ensures c.if-eq.true (c.in_ok-eat.ensures l h)

pub returns : goal.returns
unfolding import_name
returns g c l h = asks-no (same kind.Ident) c.current.ensures c.eq.ensures c.if-eq.false (c.in_ok-unexpected.ensures l h)
