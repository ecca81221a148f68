use Rattle.typst_tree.proofs.Cited.{◌≡◌, ◌+◌, ◌-◌, ◌<◌, ◌≤◌, nodes, IsOpen}
use Rattle.typst_tree.proofs.linked.LinkedNode.fork.Given as goal

abbrev pub decreases-loop-over : goal.decreases-loop-over
decreases-loop-over l = l.self.number - l.over.number

abbrev pub invariant-loop-over : goal.invariant-loop-over
invariant-loop-over l = record {
  root : l.over.root.now ≡ l.self.root.now;
  from : l.over.number ≤ l.self.number;
  to : l.self.number < l.over.number + nodes l.over.node.now;
  clear : IsOpen l.self.root.now l.over.number;
}
