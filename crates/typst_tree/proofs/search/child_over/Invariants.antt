use Rattle.typst_tree.proofs.Cited.{◌+◌, ◌-◌, ◌≤◌, length, saturated, IsPassed}
use Rattle.typst_tree.proofs.search.child_over.Given as goal

abbrev pub decreases-loop-at : goal.decreases-loop-at
decreases-loop-at l = length l.row - l.at.index

abbrev pub invariant-loop-at : goal.invariant-loop-at
invariant-loop-at l = record {
  passed : IsPassed l.row (l.fn.over.number + 1) (saturated (l.fn.over.offset + length l.fn.over.node.now.head.text)) l.at.index l.at.number l.at.offset;
  before : l.at.number ≤ l.wanted;
}
