use Rattle.typst_language.specs.Expected.{expects}
use Rattle.typst_language.proofs.Steps.{does-next, does-gives, does-peek}
use Rattle.typst_language.proofs.parser.Parser.expects.Goals as goal

pub returns : goal.returns
unfolding expects
returns g c kinds e l h = rw e (does-next (does-peek _) (does-next (c.in_ok-expect.ensures kinds e l h) does-gives))
