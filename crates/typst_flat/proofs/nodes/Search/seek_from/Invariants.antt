use Rattle.typst_flat.proofs.Cited.{length, IsSought, Passes, course}
use Rattle.typst_flat.proofs.nodes.Search.seek_from.Given as goal

abbrev pub invariant-nodes : goal.invariant-nodes
invariant-nodes l = record {
  passes : Passes (course l.fn.self l.fn.here l.fn.progress) (course l.fn.self l.at l.progress);
  sought : IsSought (course l.fn.self l.at l.progress) l.rest l.start l.number;
}

abbrev pub decreases-nodes : goal.decreases-nodes
decreases-nodes l = length l.rest
