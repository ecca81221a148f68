use Rattle.typst_tree.proofs.Cited.{◌+◌, ◌<◌, nodes, IsIn}
use Rattle.typst_tree.proofs.search.Spot.towards.Given as goal

abbrev pub invariant-loop : goal.invariant-loop
invariant-loop l = record {
  inside : IsIn l.self l.spot;
  begun : l.spot.number < l.number;
  ends : l.number < l.spot.number + nodes l.spot.node.now;
}
