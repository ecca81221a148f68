use Rattle.typst_bindings.proofs.Cited.{sym, ◌∙◌, does-next, does-gives, does-peek, does-pick, does-other, bound_name}
use Rattle.typst_bindings.proofs.bindings.bound_name.Goals as goal

pub returns-then-not-opens_params : goal.returns-then-not-opens_params
unfolding bound_name
returns-then-not-opens_params g c l h =
    does-next (c.in_ok-eat.ensures l h)
    (does-next (does-peek _) (does-other (rw (sym c.current.ensures, sym c.had_trivia.ensures) (sym c.opens_params.ensures ∙ c.if-not-opens_params.true)) does-gives))

pub returns : goal.returns
unfolding bound_name
returns g c l h =
    does-next (c.in_ok-eat.ensures l h)
    (does-next (does-peek _) (does-pick (rw (sym c.current.ensures, sym c.had_trivia.ensures) (sym c.opens_params.ensures ∙ c.if-not-opens_params.false)) (does-next (c.in_ok-params.ensures l h) does-gives)))
