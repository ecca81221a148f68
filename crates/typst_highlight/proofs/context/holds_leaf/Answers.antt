use Rattle.typst_highlight.proofs.Cited.{ap, ◌∙◌, None, is_some, forest}
use Rattle.typst_highlight.proofs.Levels.{leaf_held}
use Rattle.typst_highlight.proofs.context.holds_leaf.Goals as goal

pub returns : goal.returns
returns c = c.is_some.ensures ∙ ap is_some c.leaf_among.ensures ∙ leaf_held None 0 (forest c.args.nodes.now)
