use Rattle.typst_bindings.proofs.Cited.{refl, ap, ◌∙◌, Some, map, same, seen, does-next, does-gives, asks-yes, asks-no, is-not, is-so, does-value, name_of, defaulted, does-seeing}
use Rattle.std.specs.Prelude.{is_some}
use Rattle.typst_kinds.specs.declared.kind.SyntaxKind.TheVariants as kind
use Rattle.typst_bindings.proofs.parameters.defaulted.Goals as goal

pub returns-then-ne : goal.returns-then-ne
unfolding defaulted
returns-then-ne g c l h =
    does-next (does-seeing h.sound c.marker-from.ensures.few c.marker-from.ensures.marker (c.in_ok-seen.ensures l h) c.in_ok-change.ensures)
    (asks-no (same kind.Colon) c.current.ensures refl (is-not c.ne.ensures c.if-ne.true) does-gives)

pub returns : goal.returns
unfolding defaulted
returns g c l h =
    does-next (does-seeing h.sound c.marker-from.ensures.few c.marker-from.ensures.marker (c.in_ok-seen.ensures l h) c.in_ok-change.ensures)
    (asks-yes (same kind.Colon) c.current.ensures refl (is-so c.ne.ensures c.if-ne.false)
    (does-next (does-next (c.in_ok-eat.ensures l h) (c.in_ok-code_expression.ensures l h))
    (does-value (ap (λ b. (Some b, c.in_ok-seen.seen)) (c.is_name-is_name.ensures ∙ ap (λ ts. is_some (name_of (map seen ts))) c.given_since.ensures)) does-gives)))
