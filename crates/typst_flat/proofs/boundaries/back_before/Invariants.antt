use Rattle.typst_tree.specs.Boundaries.{IsBoundary}
use Rattle.typst_flat.proofs.boundaries.back_before.Given as goal

abbrev pub decreases-back : goal.decreases-back
decreases-back l = l.last.index

abbrev pub invariant-back : goal.invariant-back
invariant-back l = IsBoundary l.root l.last
