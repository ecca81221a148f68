use Rattle.typst_markup.proofs.Cited.{sym, ◌∙◌, eat_name}
use Rattle.typst_markup.proofs.math_arguments.eat_name.Goals as goal

pub returns-then-eq : goal.returns-then-eq
unfolding eat_name
returns-then-eq g c l h = rw (sym c.eq.ensures ∙ c.if-eq.true) (c.in_ok-eat_wanted_so.ensures l h)

pub returns : goal.returns
unfolding eat_name
returns g c l h = rw (sym c.eq.ensures ∙ c.if-eq.false) (c.in_ok-eat_so.ensures l h)
