use Rattle.typst_language.proofs.Cited.{ap, ◌∙◌, of_kind, convert_and_eat}
use Rattle.typst_tree.specs.Tree.{with_kind}
use Rattle.typst_language.proofs.parser.Parser.convert_and_eat.Goals as goal

pub returns : goal.returns
unfolding convert_and_eat
returns g c l h = let k = h.classes ∙ g.met.L.Levels.same _ in c.in_ok-take_apart.ensures l (of_kind c.args.kind) k (c.convert_to_kind-2.ensures ∙ ap (with_kind c.args.kind) (c.in_ok-node.ensures l.classes k))

pub returns-then-has_leaf : goal.returns-then-has_leaf
unfolding convert_and_eat
returns-then-has_leaf g c l h = c.in_ok-take_on.ensures l (of_kind c.args.kind) (h.classes ∙ g.met.L.Levels.same _) (c.convert_to_kind.ensures ∙ ap (with_kind c.args.kind) (c.in_ok-leaf.ensures l.classes))
