use Rattle.typst_flat.proofs.Cited.{◌-◌, nodes, IsFilled, Stays, course}
use Rattle.typst_flat.proofs.fill.fill_met.Given as goal

abbrev pub invariant-nodes : goal.invariant-nodes
invariant-nodes l = record {
  ready : Stays (course l.search l.here l.progress);
  put : IsFilled l.fn.stretch l.root l.here.number l.count l.room l.fn.room;
}

abbrev pub decreases-nodes : goal.decreases-nodes
decreases-nodes l = nodes l.root - l.here.number
