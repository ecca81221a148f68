use Rattle.typst_code.proofs.Cited.{refl, is-not, is-so, ◌∙◌, ap, Some, map, same, seen, does-next, does-gives, asks-yes, asks-no, does-value, pair}
use Rattle.typst_kinds.specs.declared.kind.SyntaxKind.TheVariants as kind
use Rattle.typst_markup.specs.Keys.{key_of}
use Rattle.typst_language.proofs.Changes.{does-seeing}
use Rattle.typst_code.proofs.groups.pair.Goals as goal

pub returns-then-ne : goal.returns-then-ne
unfolding pair
returns-then-ne g c l h =
    does-next (does-seeing h.sound c.marker-from.ensures.few c.marker-from.ensures.marker (c.in_ok-code_expression.ensures l h) c.in_ok-change.ensures)
    (asks-no (same kind.Colon) c.current.ensures refl (is-not c.ne.ensures c.if-ne.true) does-gives)

pub returns : goal.returns
unfolding pair
returns g c l h =
    does-next (does-seeing h.sound c.marker-from.ensures.few c.marker-from.ensures.marker (c.in_ok-code_expression.ensures l h) c.in_ok-change.ensures)
    (asks-yes (same kind.Colon) c.current.ensures refl (is-so c.ne.ensures c.if-ne.false)
    (does-next (does-next (c.in_ok-eat.ensures l h) (c.in_ok-code_expression-2.ensures l h))
    (does-value (ap Some (c.in_ok-key.ensures ∙ ap (λ ts. key_of (map seen ts)) c.given_since.ensures)) does-gives)))
