use Rattle.typst_code.proofs.Cited.{refl, same, does-next, does-gives, asks-yes, asks-no, is-not, is-so, back-chosen, does-chosen, does-dropped, does-either, readings}
use Rattle.typst_kinds.specs.declared.kind.SyntaxKind.TheVariants as kind
use Rattle.typst_code.proofs.Guesses.{found-back}
use Rattle.typst_code.proofs.parens.readings.Goals as goal

pub returns-then-ne : goal.returns-then-ne
unfolding readings
returns-then-ne g c l h b = asks-no (same kind.LeftParen) c.current.ensures refl (is-not c.ne.ensures c.if-ne.true) (c.in_ok-as_group.ensures l h)

pub returns-in-Some-Arrow-default : goal.returns-in-Some-Arrow-default
unfolding readings
returns-in-Some-Arrow-default g c l h b =
    let place = c.checkpoint-place.ensures in
    asks-yes (same kind.LeftParen) c.current.ensures refl (is-so c.ne.ensures c.if-ne.false)
    (does-chosen refl
    (does-either place.saved refl (λ f. found-back b.guess (rw c.in-Some-Arrow-default.field-0-0-is at c.in-Some-Arrow-default.ensures l h.levels f) c.look_too.ensures place.least f) (does-next (c.in_ok-params-in-Some-Arrow-default.ensures l h) does-gives) c.drop_notes.ensures))

pub returns-in-Some-Eq-default : goal.returns-in-Some-Eq-default
unfolding readings
returns-in-Some-Eq-default g c l h b =
    let place = c.checkpoint-place.ensures in
    asks-yes (same kind.LeftParen) c.current.ensures refl (is-so c.ne.ensures c.if-ne.false)
    (does-either place.saved refl (λ f. back-chosen refl (found-back b.guess (rw c.in-Some-Eq-default.field-0-0-is at c.in-Some-Eq-default.ensures l h.levels f) c.look_too-in-Some-Eq-default.ensures place.least f))
    (does-next (rw c.new.ensures at c.in_ok-destructuring-in-Some-Eq-default.ensures l h) does-gives) c.drop_notes-in-Some-Eq-default.ensures)

pub returns : goal.returns
unfolding readings
returns g c l h b =
    asks-yes (same kind.LeftParen) c.current.ensures refl (is-so c.ne.ensures c.if-ne.false) (does-dropped c.end_guess.ensures (c.in_ok-after.ensures l h b))
