use Rattle.typst_markup.proofs.Cited.{sym, ap, ◌∙◌, does-next, does-peek, does-gives, math_tail_turn, math_tail}
use Rattle.typst_language.specs.Hand.{as_at_hand}
use Rattle.typst_markup.specs.declared.math_heads.MathTail.TheVariants as tail
use Rattle.typst_markup.proofs.Begins.{at-tail}
use Rattle.typst_markup.proofs.formulas.math_tail_turn.Goals as goal

pub returns-in_ok-math_arguments-in-Call : goal.returns-in_ok-math_arguments-in-Call
unfolding math_tail_turn
returns-in_ok-math_arguments-in-Call g c l h = does-next (does-peek _) (at-tail _ _ tail.Call (rw (sym c.current.ensures, sym c.had_trivia.ensures) (sym c.math_tail.ensures ∙ c.in-Call.is)) (does-next (c.in_ok-math_arguments-in-Call.ensures l h) does-gives))

pub returns-in_ok-delimited-in-Delimited : goal.returns-in_ok-delimited-in-Delimited
unfolding math_tail_turn
returns-in_ok-delimited-in-Delimited g c l h = does-next (does-peek _) (at-tail _ _ tail.Delimited (rw (sym c.current.ensures, sym c.had_trivia.ensures) (sym c.math_tail.ensures ∙ c.in-Delimited.is)) (does-next (c.in_ok-delimited-in-Delimited.ensures l h) does-gives))

pub returns-in_ok-fraction-in-Fraction : goal.returns-in_ok-fraction-in-Fraction
unfolding math_tail_turn
returns-in_ok-fraction-in-Fraction g c l h = does-next (does-peek _) (at-tail _ _ tail.Fraction (rw (sym c.current.ensures, sym c.had_trivia.ensures) (sym c.math_tail.ensures ∙ c.in-Fraction.is)) (does-next (c.in_ok-fraction-in-Fraction.ensures l h) does-gives))

pub returns-in_ok-attachments-in-Attachments : goal.returns-in_ok-attachments-in-Attachments
unfolding math_tail_turn
returns-in_ok-attachments-in-Attachments g c l h = does-next (does-peek _) (at-tail _ _ tail.Attachments (rw (sym c.current.ensures, sym c.had_trivia.ensures) (sym c.math_tail.ensures ∙ c.in-Attachments.is)) (does-next (c.in_ok-attachments-in-Attachments.ensures l h) does-gives))

pub returns-in_ok-primes-in-Primes : goal.returns-in_ok-primes-in-Primes
unfolding math_tail_turn
returns-in_ok-primes-in-Primes g c l h = does-next (does-peek _) (at-tail _ _ tail.Primes (rw (sym c.current.ensures, sym c.had_trivia.ensures) (sym c.math_tail.ensures ∙ c.in-Primes.is)) (does-next (c.in_ok-primes-in-Primes.ensures l h) does-gives))

pub returns-in_ok-convert_and_eat-in-Factorial : goal.returns-in_ok-convert_and_eat-in-Factorial
unfolding math_tail_turn
returns-in_ok-convert_and_eat-in-Factorial g c l h = does-next (does-peek _) (at-tail _ _ tail.Factorial (rw (sym c.current.ensures, sym c.had_trivia.ensures) (sym c.math_tail.ensures ∙ c.in-Factorial.is)) (does-next (c.in_ok-convert_and_eat-in-Factorial.ensures l h) does-gives))

pub returns-in-Nothing : goal.returns-in-Nothing
unfolding math_tail_turn
returns-in-Nothing g c l h =
    let nothing = ap (λ k. math_tail c.args.callee c.args.least c.args.stops k (as_at_hand c.args.p.now.hand).has_trivia) (sym c.current.ensures)
    ∙ ap (math_tail c.args.callee c.args.least c.args.stops c.current.result) (sym c.had_trivia.ensures)
    ∙ sym c.math_tail.ensures
    ∙ c.in-Nothing.is in
    does-next (does-peek _) (at-tail c.args.stops _ tail.Nothing nothing does-gives)
