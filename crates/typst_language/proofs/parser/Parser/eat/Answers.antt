use Rattle.typst_language.proofs.Cited.{◌∙◌, itself, eat}
use Rattle.typst_language.proofs.parser.Parser.eat.Goals as goal

pub returns : goal.returns
unfolding eat
returns g c l h = let k = h.classes ∙ g.met.L.Levels.same _ in c.in_ok-take_apart.ensures l itself k (c.in_ok-node.ensures l.classes k)

pub returns-then-has_leaf : goal.returns-then-has_leaf
unfolding eat
returns-then-has_leaf g c l h = c.in_ok-take_on.ensures l itself (h.classes ∙ g.met.L.Levels.same _) (c.in_ok-leaf.ensures l.classes)
