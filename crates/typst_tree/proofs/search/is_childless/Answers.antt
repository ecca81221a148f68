use Rattle.typst_tree.proofs.Cited.{ap, sym, ◌∙◌, is_childless}
use Rattle.typst_tree.proofs.SingleNodes.{childless_forest}
use Rattle.typst_tree.proofs.search.is_childless.Goals as goal

pub returns : goal.returns
returns c = c.is_empty.ensures ∙ (sym (childless_forest c.children.result.now) ∙ ap is_childless c.children.ensures)
