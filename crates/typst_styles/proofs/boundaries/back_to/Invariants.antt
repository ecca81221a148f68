use Rattle.typst_tree.specs.Boundaries.{IsBoundary}
use Rattle.typst_styles.proofs.boundaries.back_to.Given as goal

abbrev pub decreases-loop-last : goal.decreases-loop-last
decreases-loop-last l = l.last.index

abbrev pub invariant-loop-last : goal.invariant-loop-last
invariant-loop-last l = IsBoundary l.root l.last
