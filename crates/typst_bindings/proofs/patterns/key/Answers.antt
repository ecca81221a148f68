use Rattle.typst_bindings.proofs.Cited.{ap, not, refl, same, does-gives, asks-yes, asks-no, is-not, is-so, key, begins-leaves}
use Rattle.typst_kinds.specs.declared.kind.SyntaxKind.TheVariants as kind
use Rattle.typst_language.proofs.Either.{does-chosen, does-either, goes-back}
use Rattle.typst_bindings.proofs.PatternFirsts.{begins-name}
use Rattle.typst_bindings.proofs.patterns.key.Goals as goal

pub returns-then-ne : goal.returns-then-ne
unfolding key
returns-then-ne g c l h = asks-no (same kind.Ident) c.current.ensures refl (is-not c.ne.ensures c.if-ne.true) does-gives

pub returns-then-is_key : goal.returns-then-is_key
unfolding key
returns-then-is_key g c l h = asks-yes (same kind.Ident) c.current.ensures refl (is-so c.ne.ensures c.if-ne.false) (does-chosen (ap not c.if-is_key.true) (c.in_ok-is_key.ensures l h))

pub returns : goal.returns
unfolding key
returns g c l h =
    let place = c.checkpoint-place.ensures in
    let first = c.in_ok-is_key.ensures l h in
    asks-yes (same kind.Ident) c.current.ensures refl (is-so c.ne.ensures c.if-ne.false)
    (does-either place.saved (ap not c.if-is_key.false) (goes-back place.saved place.few place.least (λ f. begins-leaves (begins-name f) (first.ran f)) first c.in_ok-restore.ensures) does-gives c.drop_notes.ensures)
