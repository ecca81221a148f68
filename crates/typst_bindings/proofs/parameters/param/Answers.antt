use Rattle.typst_bindings.proofs.Cited.{codes, same, does-next, does-gives, does-node, asks-yes, asks-no, named_shape, sink_shape, param}
use Rattle.typst_kinds.specs.declared.kind.SyntaxKind.TheVariants as kind
use Rattle.typst_bindings.proofs.parameters.param.Goals as goal

pub returns-then-eq : goal.returns-then-eq
unfolding param
returns-then-eq g c l h =
    asks-yes (same kind.Dots) c.current.ensures c.eq.ensures c.if-eq.true
    (does-next (does-node (λ names. sink_shape (codes "only one argument sink is allowed") c.args.had_sink) h.sound c.marker-from.ensures.few c.marker-from.ensures.marker (c.in_ok-seen.ensures l h) c.in_ok-wrap_sink.ensures) does-gives)

pub returns : goal.returns
unfolding param
returns g c l h =
    asks-no (same kind.Dots) c.current.ensures c.eq.ensures c.if-eq.false
    (does-next (does-node (λ x. named_shape x.0) h.sound c.marker-from.ensures.few c.marker-from.ensures.marker (c.in_ok-is_name.ensures l h) c.in_ok-wrap_named.ensures) does-gives)
