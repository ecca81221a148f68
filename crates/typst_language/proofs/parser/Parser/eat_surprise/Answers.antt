use Rattle.typst_language.proofs.Cited.{[], ◌∷◌, None, ap, ◌∙◌, made_unexpected, surprise}
use Rattle.typst_tree.specs.Diagnostic.{hint_with}
use Rattle.typst_tree.specs.Tree.{advised}
use Rattle.typst_language.proofs.parser.Parser.eat_surprise.Goals as goal

pub returns : goal.returns
returns g c l h =
    let k = h.classes ∙ g.met.L.Levels.same _ in
    c.in_ok-take_apart.ensures l (surprise (c.args.hint.now ∷ [])) k
    (c.in_ok-hint.ensures.ok ∙ ap (advised (hint_with None c.args.hint.now)) (c.in_ok-unexpected.ensures.ok ∙ ap made_unexpected (c.in_ok-node.ensures l.classes k)))
