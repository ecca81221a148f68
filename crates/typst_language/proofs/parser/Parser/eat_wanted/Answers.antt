use Rattle.typst_language.proofs.Cited.{ap, ◌∙◌, made_expected, wanted}
use Rattle.typst_language.proofs.parser.Parser.eat_wanted.Goals as goal

pub returns : goal.returns
returns g c l h = let k = h.classes ∙ g.met.L.Levels.same _ in c.in_ok-take_apart.ensures l (wanted c.args.thing.now) k (c.in_ok-expected.ensures.ok ∙ ap (made_expected c.args.thing.now) (c.in_ok-node.ensures l.classes k))
