use Rattle.typst_bindings.proofs.Cited.{refl, same, does-next, does-gives, asks-yes, asks-no, is-not, is-so, part}
use Rattle.typst_kinds.specs.declared.kind.SyntaxKind.TheVariants as kind
use Rattle.typst_bindings.proofs.patterns.part.Goals as goal

pub returns-then-ne : goal.returns-then-ne
unfolding part
returns-then-ne g c l h = does-next (c.in_ok-is_key.ensures l h) (asks-no (same kind.Colon) c.current.ensures refl (is-not c.ne.ensures c.if-ne.true) does-gives)

pub returns : goal.returns
unfolding part
returns g c l h =
    does-next (c.in_ok-is_key.ensures l h)
    (asks-yes (same kind.Colon) c.current.ensures refl (is-so c.ne.ensures c.if-ne.false)
    (does-next (c.in_ok-eat.ensures l h) (does-next (c.in_ok-all.ensures l h) does-gives)))
