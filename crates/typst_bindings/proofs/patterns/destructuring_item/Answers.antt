use Rattle.typst_bindings.proofs.Cited.{◌∙◌, ap, codes, same, does-next, does-gives, does-node, asks-yes, asks-no, does-value, destructuring_item, named_shape, sink_shape, with_part}
use Rattle.typst_kinds.specs.declared.kind.SyntaxKind.TheVariants as kind
use Rattle.typst_bindings.proofs.patterns.destructuring_item.Goals as goal

pub returns-then-eq : goal.returns-then-eq
unfolding destructuring_item
returns-then-eq g c l h =
    asks-yes (same kind.Dots) c.current.ensures c.eq.ensures c.if-eq.true
    (does-next (does-node (λ names. sink_shape (codes "only one destructuring sink is allowed") c.args.parts.has_sink) h.sound c.marker-from.ensures.few c.marker-from.ensures.marker (c.in_ok-seen.ensures l h) c.in_ok-wrap_sink.ensures)
    (does-value (ap (λ x. (x, c.in_ok-seen.seen)) c.with_sink.ensures) does-gives))

pub returns : goal.returns
unfolding destructuring_item
returns g c l h =
    asks-no (same kind.Dots) c.current.ensures c.eq.ensures c.if-eq.false
    (does-next (does-node (λ x. named_shape x.0) h.sound c.marker-from.ensures.few c.marker-from.ensures.marker (c.in_ok-is_named.ensures l h) c.in_ok-wrap_named.ensures)
    (does-value (ap (λ x. (x, c.in_ok-is_named.seen)) (c.with_part.ensures ∙ ap (λ b. with_part b c.args.parts) c.is_some.ensures)) does-gives))
