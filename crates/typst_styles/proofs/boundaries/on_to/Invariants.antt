use Rattle.typst_styles.proofs.Cited.{◌-◌, ◌<◌, ◌≤◌, IsBoundary}
use Rattle.typst_styles.proofs.boundaries.on_to.Given as goal

abbrev pub decreases-loop-here : goal.decreases-loop-here
decreases-loop-here l = l.count - l.here.index

abbrev pub invariant-loop-here : goal.invariant-loop-here
invariant-loop-here l = record {
  boundary : IsBoundary l.root l.here;
  low : 0 < l.here.index → l.here.bytes ≤ l.byte;
}
