use Rattle.typst_tree.proofs.Cited.{◌-◌, ◌≤◌, IsBoundary}
use Rattle.typst_tree.proofs.boundary.Boundary.moved_to.Given as goal

abbrev pub decreases-on : goal.decreases-on
decreases-on l = l.index - l.boundary.index

abbrev pub invariant-on : goal.invariant-on
invariant-on l = record { between : IsBoundary l.root l.boundary }

abbrev pub decreases-back : goal.decreases-back
decreases-back l = l.boundary.index

abbrev pub invariant-back : goal.invariant-back
invariant-back l = record {
  between : IsBoundary l.root l.boundary;
  behind : l.index ≤ l.boundary.index;
}
