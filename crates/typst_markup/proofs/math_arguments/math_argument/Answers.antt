use Rattle.typst_markup.proofs.Cited.{sym, ◌∙◌, does-next, does-gives, does-peek, does-pick, does-other, does-value, math_argument}
use Rattle.typst_markup.proofs.math_arguments.math_argument.Goals as goal

pub returns-then-eq : goal.returns-then-eq
unfolding math_argument
returns-then-eq g c l h = does-next (does-peek _) (does-next (c.in_ok-kind_so.ensures l h) (does-pick (sym c.eq.ensures ∙ c.if-eq.true) (does-next (c.in_ok-spread_argument.ensures l h) does-gives)))

pub returns-then-not-names_argument : goal.returns-then-not-names_argument
unfolding math_argument
returns-then-not-names_argument g c l h =
    does-next (does-peek _) (does-next (c.in_ok-kind_so.ensures l h) (does-other (sym c.eq.ensures ∙ c.if-eq.false)
    (does-next (c.in_ok-name.ensures l h) (does-other (sym c.names_argument.ensures ∙ c.if-not-names_argument.true) (does-next (c.in_ok-argument_value.ensures l h) does-gives)))))

pub returns : goal.returns
unfolding math_argument
returns g c l h =
    does-next (does-peek _) (does-next (c.in_ok-kind_so.ensures l h) (does-other (sym c.eq.ensures ∙ c.if-eq.false)
    (does-next (c.in_ok-name.ensures l h) (does-pick (sym c.names_argument.ensures ∙ c.if-not-names_argument.false)
    (does-next (c.in_ok-named_argument.ensures l h) (does-value c.in_ok-with_argument.ensures does-gives))))))
