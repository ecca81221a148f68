use Rattle.typst_bindings.proofs.Cited.{same, does-next, does-gives, does-pick, does-other, found, asks-yes, asks-no, pattern}
use Rattle.typst_kinds.specs.declared.kind.SyntaxKind.TheVariants as kind
use Rattle.typst_bindings.proofs.patterns.pattern.Goals as goal

pub returns-then-eq : goal.returns-then-eq
unfolding pattern
returns-then-eq g c l h = asks-yes (same kind.Underscore) c.current.ensures c.eq.ensures c.if-eq.true (does-next (c.in_ok-eat.ensures l h) does-gives)

pub returns-then-eq-2 : goal.returns-then-eq-2
unfolding pattern
returns-then-eq-2 g c l h =
    asks-no (same kind.Underscore) c.current.ensures c.eq.ensures c.if-eq.false
    (does-pick (found (same kind.LeftParen) c.current-2.ensures c.eq-2.ensures c.if-eq-2.true) (c.in_ok-destructuring.ensures l h))

pub returns : goal.returns
unfolding pattern
returns g c l h =
    asks-no (same kind.Underscore) c.current.ensures c.eq.ensures c.if-eq.false
    (does-other (found (same kind.LeftParen) c.current-2.ensures c.eq-2.ensures c.if-eq-2.false) (c.in_ok-pattern_leaf.ensures l h))
