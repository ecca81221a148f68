use Rattle.typst_language.proofs.Cited.{◌∙◌, itself}
use Rattle.typst_language.proofs.parser.Parser.pass.Goals as goal
use Rattle.typst_language.proofs.parser.Parser.pass.Goals.{then-has_leaf+in_ok-node, else-has_leaf+in_ok-node-2}

pub returns : goal.returns
returns g c l h = c.in_ok-take.ensures l itself (elim c.if-has_leaf.branch [ then-has_leaf+in_ok-node w ↦ w.node-is ∙ w.in_ok-node.ensures l.classes | else-has_leaf+in_ok-node-2 w ↦ w.node-is ∙ w.in_ok-node-2.ensures l.classes (h.classes ∙ g.met.L.Levels.same _) ])
