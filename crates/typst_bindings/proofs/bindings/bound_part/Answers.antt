use Rattle.typst_bindings.proofs.Cited.{same, does-next, does-gives, asks-yes, asks-no, bound_part}
use Rattle.typst_kinds.specs.declared.kind.SyntaxKind.TheVariants as kind
use Rattle.typst_bindings.proofs.bindings.bound_part.Goals as goal

pub returns-then-eq : goal.returns-then-eq
unfolding bound_part
returns-then-eq g c l h = asks-yes (same kind.Ident) c.current.ensures c.eq.ensures c.if-eq.true (c.in_ok-bound_name.ensures l h)

pub returns : goal.returns
unfolding bound_part
returns g c l h = asks-no (same kind.Ident) c.current.ensures c.eq.ensures c.if-eq.false (does-next (rw c.new.ensures at c.in_ok-deeper_pattern.ensures l h) does-gives)
