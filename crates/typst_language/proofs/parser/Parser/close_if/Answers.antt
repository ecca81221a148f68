use Rattle.typst_language.proofs.Cited.{sym, ◌∙◌, Bare, Fits, close_if}
use Rattle.typst_language.proofs.Steps.{does-next, does-gives, does-peek, does-pick, does-other, does-loose, bare-knows, fits-knows}
use Rattle.typst_language.proofs.parser.Parser.close_if.Goals as goal

pub returns-in_ok-pass : goal.returns-in_ok-pass
unfolding close_if
returns-in_ok-pass g c kinds e l h = rw c.if-is.true (does-loose {Q = Bare l} bare-knows (does-next (does-peek _) (does-pick (sym e ∙ c.if-is.true) (does-next (c.in_ok-pass.ensures l h) does-gives))))

pub returns-else-is : goal.returns-else-is
unfolding close_if
returns-else-is g c kinds e l h = rw c.if-is.false (does-loose {Q = Fits l} fits-knows (does-next (does-peek _) (does-other (sym e ∙ c.if-is.false) does-gives)))
