use Rattle.typst_code.proofs.Cited.{same, does-next, does-gives, asks-yes, asks-no, not_in}
use Rattle.typst_kinds.specs.declared.kind.SyntaxKind.TheVariants as kind
use Rattle.typst_code.proofs.expressions.not_in.Goals as goal

pub returns-then-eq-clause-means : goal.returns-then-eq-clause-means
unfolding not_in
returns-then-eq-clause-means g c l h = does-next (c.in_ok-eat.ensures l h) (asks-yes (same kind.In) c.current.ensures c.eq.ensures c.if-eq.true (c.in_ok-binary_expr.ensures.means l h))

pub returns-clause-means : goal.returns-clause-means
unfolding not_in
returns-clause-means g c l h = does-next (c.in_ok-eat.ensures l h) (asks-no (same kind.In) c.current.ensures c.eq.ensures c.if-eq.false (does-next (c.in_ok-expected.ensures l h) does-gives))
