use Rattle.typst_code.proofs.Cited.{◌∙◌, ap, subst, same, does-next, does-gives, does-node, Rewrapped, asks-yes, asks-no, does-value, item, item_shape, misfit}
use Rattle.std.specs.Prelude.{is_some}
use Rattle.typst_kinds.specs.declared.kind.SyntaxKind.TheVariants as kind
use Rattle.typst_language.specs.Shape.Shape.{keeps}
use Rattle.typst_code.proofs.groups.item.Goals as goal

pub returns-then-eq : goal.returns-then-eq
unfolding item
returns-then-eq g c l h =
    asks-yes (same kind.Dots) c.current.ensures c.eq.ensures c.if-eq.true (does-next (c.in_ok-spread.ensures l h) (does-value c.with_spread.ensures does-gives))

pub returns : goal.returns
unfolding item
returns g c l h =
    asks-no (same kind.Dots) c.current.ensures c.eq.ensures c.if-eq.false
    (does-next (does-node (λ key. keeps (misfit c.args.items.are_pairs (is_some key))) h.sound c.marker-from.ensures.few c.marker-from.ensures.marker
    (does-node (item_shape c.args.items.keys) h.sound c.marker-from.ensures.few c.marker-from.ensures.marker (c.in_ok-key.ensures l h) c.in_ok-wrap_item.ensures)
    (subst (λ x. Rewrapped c.marker-from.result (keeps x) c.wrap_item.new.p c.change.new.self) (c.misfit.ensures.meant ∙ ap (misfit c.args.items.are_pairs) c.is_some.ensures) c.in_ok-change.ensures))
    (does-value c.in_ok-with_item.ensures does-gives))
