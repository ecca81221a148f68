use Rattle.typst_language.specs.Steps.{unexpected}
use Rattle.typst_language.proofs.parser.Parser.unexpected_with_hint.Goals as goal

pub returns : goal.returns
unfolding unexpected
returns g c = c.in_ok-eat_surprise.ensures
