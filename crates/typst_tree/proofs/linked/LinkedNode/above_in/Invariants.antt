use Rattle.typst_tree.proofs.Cited.{◌≡◌, ◌+◌, ◌-◌, ◌<◌, nodes}
use Rattle.typst_tree.proofs.linked.LinkedNode.above_in.Given as goal

abbrev pub decreases-loop-parent : goal.decreases-loop-parent
decreases-loop-parent l = l.self.number - l.parent.number

abbrev pub invariant-loop-parent : goal.invariant-loop-parent
invariant-loop-parent l = record {
  root : l.parent.root.now ≡ l.self.root.now;
  from : l.parent.number < l.self.number;
  to : l.self.number < l.parent.number + nodes l.parent.node.now;
}
