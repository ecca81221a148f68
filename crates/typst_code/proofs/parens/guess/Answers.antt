use Rattle.typst_code.proofs.Cited.{refl, ap, ◌∙◌, arith, View, does-next, does-gives, does-value, back-changed, back-chosen, back-fits, does-chosen, does-either, goes-back, is_arrow, is_eq, is_end, begins-leaves}
use Rattle.typst_language.specs.Checkpoint.{saved}
use Rattle.typst_language.proofs.Aside.{back-aside, begun-fits, does-aside}
use Rattle.typst_code.proofs.Firsts.{begins-as_group}
use Rattle.typst_code.proofs.Guesses.{back-comes}
use Rattle.typst_code.proofs.parens.guess.Goals as goal

pub returns-in_ok-params-in-Arrow : goal.returns-in_ok-params-in-Arrow
returns-in_ok-params-in-Arrow g c l h b =
    let place = c.checkpoint-place.ensures in
    let began = c.begin_guess-aside.ensures in
    let first = c.in_ok-after.ensures l h in
    let remembered = c.in_ok-remember-in-Arrow.ensures in
    does-value c.in-Arrow.is
    (does-chosen refl
    (does-either (place.saved ∙ ap saved began.begun) (ap is_arrow c.in-Arrow.is)
    (λ f. (let fits = begun-fits began.begun f in
    let back = goes-back place.saved place.few place.least (λ e. begins-leaves (begins-as_group h.sound e (ap (λ (v : View). is_end v.hand.kind) began.begun ∙ ap is_end c.requires.paren)) (first.ran e)) first c.in_ok-restore-in-Arrow.ensures fits in
    let known = back-changed remembered.same (remembered.knows l h.levels (back-comes c.args.p.now b.guess began.begun fits back) (back-fits fits back).knows) back in
    back-aside began.begun began.aside began.least f known c.look_too.ensures))
    (does-next (c.in_ok-params-in-Arrow.ensures l h) does-gives) c.drop_notes.ensures))

pub returns-in_ok-destructuring-in-Eq : goal.returns-in_ok-destructuring-in-Eq
returns-in_ok-destructuring-in-Eq g c l h b =
    let place = c.checkpoint-place.ensures in
    let began = c.begin_guess-aside.ensures in
    let first = c.in_ok-after.ensures l h in
    let remembered = c.in_ok-remember-in-Eq.ensures in
    does-value c.in-Eq.is
    (does-either (place.saved ∙ ap saved began.begun) (ap is_eq c.in-Eq.is)
    (λ f. (let fits = begun-fits began.begun f in
    let back = goes-back place.saved place.few place.least (λ e. begins-leaves (begins-as_group h.sound e (ap (λ (v : View). is_end v.hand.kind) began.begun ∙ ap is_end c.requires.paren)) (first.ran e)) first c.in_ok-restore-in-Eq.ensures fits in
    let known = back-changed remembered.same (remembered.knows l h.levels (back-comes c.args.p.now b.guess began.begun fits back) (back-fits fits back).knows) back in
    back-chosen (ap is_arrow c.in-Eq.is) (back-aside began.begun began.aside began.least f known c.look_too-in-Eq.ensures)))
    (does-next (rw c.new.ensures at c.in_ok-destructuring-in-Eq.ensures l h) does-gives) c.drop_notes-in-Eq.ensures)

pub returns-in-Nothing : goal.returns-in-Nothing
returns-in-Nothing g c l h b = grind (arith, does-chosen, does-aside)
