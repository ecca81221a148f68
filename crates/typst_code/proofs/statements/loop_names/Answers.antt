use Rattle.typst_code.proofs.Cited.{same, does-next, does-gives, asks-yes, asks-no, loop_names}
use Rattle.typst_kinds.specs.declared.kind.SyntaxKind.TheVariants as kind
use Rattle.typst_code.proofs.statements.loop_names.Goals as goal

pub returns-in_ok-second_pattern : goal.returns-in_ok-second_pattern
unfolding loop_names
returns-in_ok-second_pattern g c l h = does-next (rw c.new.ensures at c.in_ok-names.ensures l h) (asks-yes (same kind.Comma) c.current.ensures c.eq.ensures c.if-eq.true (c.in_ok-second_pattern.ensures l h))

pub returns-else-eq : goal.returns-else-eq
unfolding loop_names
returns-else-eq g c l h = does-next (rw c.new.ensures at c.in_ok-names.ensures l h) (asks-no (same kind.Comma) c.current.ensures c.eq.ensures c.if-eq.false does-gives)
