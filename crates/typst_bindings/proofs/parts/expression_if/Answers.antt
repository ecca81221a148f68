use Rattle.typst_language.proofs.Steps.{does-gives, does-pick, does-other}
use Rattle.typst_bindings.proofs.parts.expression_if.Goals as goal

pub returns-in_ok-code_expression : goal.returns-in_ok-code_expression
returns-in_ok-code_expression g c l h = does-pick c.if-asked.true (c.in_ok-code_expression.ensures l h)

pub returns-else-asked : goal.returns-else-asked
returns-else-asked g c l h = does-other c.if-asked.false does-gives
