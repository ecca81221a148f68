use Rattle.typst_flat.proofs.Cited.{◌≡◌, length, waiting, Stays, course}
use Rattle.typst_flat.proofs.nodes.Search.come.Given as goal

abbrev pub invariant-rows : goal.invariant-rows
invariant-rows l = record {
  number : l.at.number ≡ l.fn.here.number;
  ready : Stays (course l.fn.self l.at l.progress);
}

abbrev pub decreases-rows : goal.decreases-rows
decreases-rows l = length (waiting l.progress)
