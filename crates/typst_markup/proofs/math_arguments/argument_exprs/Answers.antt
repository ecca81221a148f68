use Rattle.typst_markup.proofs.Cited.{sym, ◌∙◌, does-next, does-gives, does-pick, does-other, argument_exprs}
use Rattle.typst_markup.proofs.math_arguments.argument_exprs.Goals as goal

pub returns-in_ok-expected : goal.returns-in_ok-expected
unfolding argument_exprs
returns-in_ok-expected g c l h = does-next (c.in_ok-count.ensures l h) (does-next (does-pick (sym c.is_missing.ensures ∙ c.if-is_missing.true) (c.in_ok-expected.ensures l h)) does-gives)

pub returns-else-is_missing : goal.returns-else-is_missing
unfolding argument_exprs
returns-else-is_missing g c l h = does-next (c.in_ok-count.ensures l h) (does-next (does-other (sym c.is_missing.ensures ∙ c.if-is_missing.false) does-gives) does-gives)
