use Rattle.typst_code.proofs.Cited.{same, does-pick, does-other, found, asks-yes, asks-no, imported}
use Rattle.typst_kinds.specs.declared.kind.SyntaxKind.TheVariants as kind
use Rattle.typst_code.proofs.imports.imported.Goals as goal

pub returns-then-eq : goal.returns-then-eq
unfolding imported
returns-then-eq g c l h = asks-yes (same kind.LeftParen) c.current.ensures c.eq.ensures c.if-eq.true (c.in_ok-import_parens.ensures l h)

pub returns-then-eq-2 : goal.returns-then-eq-2
unfolding imported
returns-then-eq-2 g c l h =
    asks-no (same kind.LeftParen) c.current.ensures c.eq.ensures c.if-eq.false
    (does-pick (found (same kind.Star) c.current-2.ensures c.eq-2.ensures c.if-eq-2.true) (c.in_ok-eat.ensures l h))

pub returns : goal.returns
unfolding imported
returns g c l h =
    asks-no (same kind.LeftParen) c.current.ensures c.eq.ensures c.if-eq.false
    (does-other (found (same kind.Star) c.current-2.ensures c.eq-2.ensures c.if-eq-2.false) (c.in_ok-import_items.ensures l h))
