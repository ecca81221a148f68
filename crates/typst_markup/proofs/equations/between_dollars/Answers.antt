use Rattle.typst_markup.proofs.Cited.{refl, true, false, same, does-next, does-gives, does-closed, between_dollars, math_reading, asks-yes, asks-no, does-entered, close_if}
use Rattle.typst_kinds.specs.declared.kind.SyntaxKind.TheVariants as kind
use Rattle.typst_language.proofs.Nots.{is-not, is-so}
use Rattle.typst_markup.proofs.equations.between_dollars.Goals as goal

pub returns-then-ne : goal.returns-then-ne
unfolding between_dollars close_if
returns-then-ne g c l h =
    does-entered (λ _. math_reading) c.enter-outer.ensures.view
    (does-next (c.in_ok-eat.ensures l h) (does-next (c.in_ok-math.ensures l h) (asks-no (same kind.Dollar) c.current.ensures refl (is-not c.ne.ensures c.if-ne.true) does-gives)))
    c.enter-outer.ensures.outer (c.in_ok-leave.ensures l h)

pub returns : goal.returns
unfolding between_dollars close_if
returns g c l h =
    does-closed (λ _. math_reading) c.enter-outer.ensures.view c.enter-outer.ensures.outer
    (does-next (c.in_ok-eat.ensures l h) (does-next (c.in_ok-math.ensures l h) (asks-yes (same kind.Dollar) c.current.ensures refl (is-so c.ne.ensures c.if-ne.false) (does-next (c.in_ok-pass.ensures l h) does-gives))))
    c.leave_unasked.ensures (c.in_ok-look.ensures l h)
