use Rattle.typst_language.proofs.Steps.{does-next, does-gives}
use Rattle.typst_bindings.proofs.closures.right_side.Goals as goal

pub returns-in_ok-code_expression-in-Arrow : goal.returns-in_ok-code_expression-in-Arrow
returns-in_ok-code_expression-in-Arrow g c l h = rw c.in-Arrow.is (does-next (c.in_ok-eat-in-Arrow.ensures l h) (c.in_ok-code_expression-in-Arrow.ensures l h))

pub returns-in_ok-code_expression-in-Eq : goal.returns-in_ok-code_expression-in-Eq
returns-in_ok-code_expression-in-Eq g c l h = rw c.in-Eq.is (does-next (c.in_ok-eat-in-Eq.ensures l h) (c.in_ok-code_expression-in-Eq.ensures l h))

pub returns-in-Nothing : goal.returns-in-Nothing
returns-in-Nothing g c l h = rw c.in-Nothing.is does-gives
