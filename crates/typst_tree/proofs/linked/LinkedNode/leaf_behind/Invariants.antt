use Rattle.typst_tree.proofs.Cited.{◌≡◌, ◌+◌, ◌-◌, length, nodes, saturated, leaf_after, IsPassed}
use Rattle.typst_tree.proofs.linked.LinkedNode.leaf_behind.Given as goal

abbrev pub decreases-loop-at : goal.decreases-loop-at
decreases-loop-at l = length l.row - l.at.index

abbrev pub invariant-loop-at : goal.invariant-loop-at
invariant-loop-at l = record {
  passed : IsPassed l.row (l.parent.number + 1) (saturated (l.parent.offset + length l.parent.node.now.head.text)) l.at.index l.at.number l.at.offset;
  found : leaf_after l.self.root.now (l.self.number + nodes l.self.node.now) ≡ leaf_after l.self.root.now l.at.number;
}
