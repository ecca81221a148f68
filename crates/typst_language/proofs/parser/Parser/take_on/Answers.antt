use Rattle.typst_language.proofs.Steps.{does-eat}
use Rattle.typst_language.proofs.parser.Parser.take_on.Goals as goal

pub returns : goal.returns
returns g c l making k e = does-eat (c.in_ok-take.ensures l making e) (c.in_ok-read.ensures l k)
