use Rattle.typst_code.proofs.Cited.{does-next, asks-yes, asks-no, statement, begins_code}
use Rattle.typst_code.proofs.sequences.statement.Goals as goal

pub returns-then-not-begins_code : goal.returns-then-not-begins_code
unfolding statement
returns-then-not-begins_code g c l h = asks-no begins_code c.current.ensures c.begins_code.ensures c.if-not-begins_code.true (c.in_ok-unexpected.ensures l h)

pub returns : goal.returns
unfolding statement
returns g c l h =
    asks-yes begins_code c.current.ensures c.begins_code.ensures c.if-not-begins_code.false (does-next (c.in_ok-code_expression.ensures l h) (c.in_ok-statement_end.ensures l h))
