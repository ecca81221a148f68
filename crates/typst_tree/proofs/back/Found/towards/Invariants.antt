use Rattle.typst_tree.proofs.Cited.{◌+◌, ◌<◌, ◌≤◌, nodes, IsUnder}
use Rattle.typst_tree.proofs.back.Found.towards.Given as goal

abbrev pub invariant-loop : goal.invariant-loop
invariant-loop l = record {
  below : IsUnder l.fn.self l.way;
  begun : l.way.number ≤ l.fn.number;
  ends : l.fn.number < l.way.number + nodes l.way.node.now;
}
