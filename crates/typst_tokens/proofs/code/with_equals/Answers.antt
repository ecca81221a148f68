use Rattle.typst_tokens.proofs.Cited.{rules, with_equals}
use Rattle.typst_tokens.proofs.code.with_equals.Goals as goal

pub returns-then-eat_if : goal.returns-then-eat_if
unfolding with_equals
returns-then-eat_if c = search rules
