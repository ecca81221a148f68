use Rattle.typst_code.proofs.Cited.{does-next, does-gives, asks-yes, asks-no, second_pattern, begins_pattern}
use Rattle.typst_code.proofs.statements.second_pattern.Goals as goal

pub returns-in_ok-deeper_pattern : goal.returns-in_ok-deeper_pattern
unfolding second_pattern
returns-in_ok-deeper_pattern g c l h = does-next (c.in_ok-eat_unexpected.ensures l h) (asks-yes begins_pattern c.current.ensures c.begins_pattern.ensures c.if-begins_pattern.true (does-next (c.in_ok-deeper_pattern.ensures l h) does-gives))

pub returns-else-begins_pattern : goal.returns-else-begins_pattern
unfolding second_pattern
returns-else-begins_pattern g c l h = does-next (c.in_ok-eat_unexpected.ensures l h) (asks-no begins_pattern c.current.ensures c.begins_pattern.ensures c.if-begins_pattern.false does-gives)
