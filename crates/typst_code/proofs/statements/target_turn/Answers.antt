use Rattle.typst_code.proofs.Cited.{refl, is-not, is-so, same, does-gives, asks-yes, asks-no, target_turn}
use Rattle.typst_kinds.specs.declared.kind.SyntaxKind.TheVariants as kind
use Rattle.typst_code.proofs.statements.target_turn.Goals as goal

pub returns-then-ne-clause-means : goal.returns-then-ne-clause-means
unfolding target_turn
returns-then-ne-clause-means g c l h = asks-no (same kind.Dot) c.current.ensures refl (is-not c.ne.ensures c.if-ne.true) does-gives

pub returns-clause-means : goal.returns-clause-means
unfolding target_turn
returns-clause-means g c l h = asks-yes (same kind.Dot) c.current.ensures refl (is-so c.ne.ensures c.if-ne.false) (c.in_ok-field.ensures.means l h)
