use Rattle.typst_language.proofs.Cited.{[], ap, ◌∙◌, made_unexpected, surprise, unexpected}
use Rattle.typst_language.proofs.parser.Parser.unexpected.Goals as goal

pub returns : goal.returns
unfolding unexpected
returns g c l h = let k = h.classes ∙ g.met.L.Levels.same _ in c.in_ok-take_apart.ensures l (surprise []) k (c.in_ok-unexpected.ensures.ok ∙ ap made_unexpected (c.in_ok-node.ensures l.classes k))
