use Rattle.typst_code.proofs.Cited.{same, does-next, does-gives, does-node, asks-yes, asks-no, does-value, argument, argument_shape}
use Rattle.typst_kinds.specs.declared.kind.SyntaxKind.TheVariants as kind
use Rattle.typst_code.proofs.arguments.argument.Goals as goal

pub returns-then-eq : goal.returns-then-eq
unfolding argument
returns-then-eq g c l h = asks-yes (same kind.Dots) c.current.ensures c.eq.ensures c.if-eq.true (does-next (c.in_ok-spread.ensures l h) does-gives)

pub returns : goal.returns
unfolding argument
returns g c l h =
    asks-no (same kind.Dots) c.current.ensures c.eq.ensures c.if-eq.false
    (does-next (does-node (argument_shape c.args.names) h.sound c.marker-from.ensures.few c.marker-from.ensures.marker (c.in_ok-key.ensures l h) c.in_ok-wrap_argument.ensures)
    (does-value c.in_ok-with_argument.ensures does-gives))
