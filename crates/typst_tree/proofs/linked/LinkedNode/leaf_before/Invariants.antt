use Rattle.typst_tree.proofs.Cited.{◌≡◌, ◌+◌, ◌≤◌, ◌<◌, ◌^◌, take, length, forest, count, joined, leaf_until}
use Rattle.typst_tree.proofs.linked.LinkedNode.leaf_before.Given as goal

abbrev pub decreases-loop-at : goal.decreases-loop-at
decreases-loop-at l = l.at.index

abbrev pub invariant-loop-at : goal.invariant-loop-at
invariant-loop-at l = record {
  within : l.at.index ≤ length l.row;
  found : leaf_until l.self.root.now l.self.number ≡ leaf_until l.self.root.now l.at.number;
  number : l.at.number ≡ l.parent.number + 1 + count (forest (take l.at.index l.row));
  offset : l.at.offset ≡ l.parent.offset + length l.parent.node.now.head.text + length (joined (forest (take l.at.index l.row)));
  small : l.at.offset < 2 ^ 64;
}
