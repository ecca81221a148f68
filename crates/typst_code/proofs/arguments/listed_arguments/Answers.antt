use Rattle.typst_code.proofs.Cited.{refl, is-not, is-so, same, does-gives, asks-yes, asks-no, listed_arguments}
use Rattle.typst_kinds.specs.declared.kind.SyntaxKind.TheVariants as kind
use Rattle.typst_code.proofs.arguments.listed_arguments.Goals as goal

pub returns-then-ne : goal.returns-then-ne
unfolding listed_arguments
returns-then-ne g c l h = asks-no (same kind.LeftParen) c.current.ensures refl (is-not c.ne.ensures c.if-ne.true) does-gives

pub returns : goal.returns
unfolding listed_arguments
returns g c l h = asks-yes (same kind.LeftParen) c.current.ensures refl (is-so c.ne.ensures c.if-ne.false) (c.in_ok-argument_list.ensures l h)
