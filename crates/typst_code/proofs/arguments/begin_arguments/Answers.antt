use Rattle.typst_code.proofs.Cited.{◌∙◌, sym, does-next, does-gives, does-peek, does-pick, does-other, begin_arguments}
use Rattle.typst_code.proofs.arguments.begin_arguments.Goals as goal

pub returns-in_ok-missing_arguments : goal.returns-in_ok-missing_arguments
unfolding begin_arguments
returns-in_ok-missing_arguments g c l h =
    does-next (does-peek _) (does-other (rw (sym c.current.ensures, sym c.had_trivia.ensures) (sym c.calls_directly.ensures ∙ c.if-not-calls_directly.true)) (c.in_ok-missing_arguments.ensures l h))

pub returns-else-not-calls_directly : goal.returns-else-not-calls_directly
unfolding begin_arguments
returns-else-not-calls_directly g c l h =
    does-next (does-peek _) (does-pick (rw (sym c.current.ensures, sym c.had_trivia.ensures) (sym c.calls_directly.ensures ∙ c.if-not-calls_directly.false)) does-gives)
