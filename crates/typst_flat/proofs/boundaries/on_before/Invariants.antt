use Rattle.typst_flat.proofs.Cited.{◌-◌, ◌<◌, IsBoundary}
use Rattle.typst_flat.proofs.boundaries.on_before.Given as goal

abbrev pub decreases-on : goal.decreases-on
decreases-on l = l.count - l.last.index

abbrev pub invariant-on : goal.invariant-on
invariant-on l = record {
  boundary : IsBoundary l.root l.last;
  low : 0 < l.last.index → l.last.bytes < l.byte;
}
