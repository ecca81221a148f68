use Rattle.typst_language.proofs.Cited.{sym, ◌∙◌, expect}
use Rattle.typst_language.proofs.Steps.{does-next, does-peek, does-pick, does-other}
use Rattle.typst_language.proofs.parser.Parser.expect.Goals as goal

pub returns-in_ok-eat : goal.returns-in_ok-eat
unfolding expect
returns-in_ok-eat g c kinds e l h = does-next (does-peek _) (does-pick (sym e ∙ c.if-is.true) (c.in_ok-eat.ensures l h))

pub returns-in_ok-expected : goal.returns-in_ok-expected
unfolding expect
returns-in_ok-expected g c kinds e l h = does-next (does-peek _) (does-other (sym e ∙ c.if-is.false) (c.in_ok-expected.ensures l h))
