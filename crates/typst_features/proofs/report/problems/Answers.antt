use Rattle.typst_features.proofs.Cited.{◌∙◌, walk}
use Rattle.typst_features.proofs.VisitedProblems.{of_walk, of_diagnosed}
use Rattle.typst_features.proofs.report.problems.Goals as goal

pub loop-walk-init : goal.loop-walk-init
loop-walk-init c = rw (c.new-found.ensures.items, c.preorder-walk.ensures.walk) (of_diagnosed (walk 0 c.args.root.now) ∙ of_walk c.args.root.now)
