use Rattle.typst_grammar.proofs.Cited.{does-next, does-look, whole, whole_code, whole_math}
use Rattle.typst_grammar.proofs.grammar.read_all.Goals as goal

pub returns-in_ok-flush_trivia-in-Markup : goal.returns-in_ok-flush_trivia-in-Markup
unfolding whole
returns-in_ok-flush_trivia-in-Markup g c l h = rw c.in-Markup.is (does-next (c.in_ok-markup_run-in-Markup.ensures l h) (c.in_ok-flush_trivia-in-Markup.ensures l))

pub returns-in_ok-flush_trivia-in-Code : goal.returns-in_ok-flush_trivia-in-Code
unfolding whole_code
returns-in_ok-flush_trivia-in-Code g c l h = rw c.in-Code.is (does-next (does-next (does-look (c.in_ok-look-in-Code.ensures l h)) (c.in_ok-code_exprs-in-Code.ensures l h)) (c.in_ok-flush_trivia-in-Code.ensures l))

pub returns-in_ok-flush_trivia-in-Math : goal.returns-in_ok-flush_trivia-in-Math
unfolding whole_math
returns-in_ok-flush_trivia-in-Math g c l h = rw c.in-Math.is (does-next (does-next (does-look (c.in_ok-look-in-Math.ensures l h)) (c.in_ok-math_exprs-in-Math.ensures l h)) (c.in_ok-flush_trivia-in-Math.ensures l))
