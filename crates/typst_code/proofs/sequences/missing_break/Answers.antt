use Rattle.typst_code.proofs.Cited.{same, does-next, does-gives, asks-yes, asks-no, missing_break}
use Rattle.typst_kinds.specs.declared.kind.SyntaxKind.TheVariants as kind
use Rattle.typst_code.proofs.sequences.missing_break.Goals as goal

pub returns-in_ok-hint-2 : goal.returns-in_ok-hint-2
unfolding missing_break
returns-in_ok-hint-2 g c l h =
    does-next (c.in_ok-expected.ensures l h) (asks-yes (same kind.Label) c.current.ensures c.eq.ensures c.if-eq.true (does-next (c.in_ok-hint.ensures l) (c.in_ok-hint-2.ensures l)))

pub returns-else-eq : goal.returns-else-eq
unfolding missing_break
returns-else-eq g c l h = does-next (c.in_ok-expected.ensures l h) (asks-no (same kind.Label) c.current.ensures c.eq.ensures c.if-eq.false does-gives)
