use Rattle.typst_code.proofs.Cited.{same, does-gives, does-pick, does-other, found, asks-yes, asks-no, statement_end, stops_at}
use Rattle.typst_kinds.specs.declared.kind.SyntaxKind.TheVariants as kind
use Rattle.typst_code.proofs.sequences.statement_end.Goals as goal

pub returns-then-has : goal.returns-then-has
unfolding statement_end
returns-then-has g c l h = asks-yes (stops_at c.args.stop) c.current.ensures c.has.ensures c.if-has.true does-gives

pub returns-then-eq : goal.returns-then-eq
unfolding statement_end
returns-then-eq g c l h =
    asks-no (stops_at c.args.stop) c.current.ensures c.has.ensures c.if-has.false
    (does-pick (found (same kind.Semicolon) c.current-2.ensures c.eq.ensures c.if-eq.true) (c.in_ok-eat.ensures l h))

pub returns : goal.returns
unfolding statement_end
returns g c l h =
    asks-no (stops_at c.args.stop) c.current.ensures c.has.ensures c.if-has.false
    (does-other (found (same kind.Semicolon) c.current-2.ensures c.eq.ensures c.if-eq.false) (c.in_ok-missing_break.ensures l h))
