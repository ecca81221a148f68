use Rattle.typst_language.proofs.Cited.{sym, ◌∙◌, eat_if}
use Rattle.typst_language.proofs.Steps.{does-next, does-gives, does-peek, does-pick, does-other}
use Rattle.typst_language.proofs.parser.Parser.eat_if.Goals as goal

pub returns-in_ok-eat : goal.returns-in_ok-eat
unfolding eat_if
returns-in_ok-eat g c kinds e l h = rw c.if-is.true (does-next (does-peek _) (does-pick (sym e ∙ c.if-is.true) (does-next (c.in_ok-eat.ensures l h) does-gives)))

pub returns-else-is : goal.returns-else-is
unfolding eat_if
returns-else-is g c kinds e l h = rw c.if-is.false (does-next (does-peek _) (does-other (sym e ∙ c.if-is.false) does-gives))
