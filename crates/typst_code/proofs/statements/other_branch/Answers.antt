use Rattle.typst_code.proofs.Cited.{same, does-next, does-gives, asks-yes, asks-no, other_branch}
use Rattle.typst_kinds.specs.declared.kind.SyntaxKind.TheVariants as kind
use Rattle.typst_code.proofs.statements.other_branch.Goals as goal

pub returns-then-eq : goal.returns-then-eq
unfolding other_branch
returns-then-eq g c l h b = asks-yes (same kind.If) c.current.ensures c.eq.ensures c.if-eq.true does-gives

pub returns : goal.returns
unfolding other_branch
returns g c l h b = asks-no (same kind.If) c.current.ensures c.eq.ensures c.if-eq.false (does-next (c.in_ok-any_block.ensures l h b) does-gives)
