use Rattle.typst_tree.proofs.Cited.{◌≡◌, ◌+◌, ◌-◌, drop, length, forest, preorder, saturated, IsPassed, first_at, holds_byte}
use Rattle.typst_tree.proofs.search.child_at.Given as goal

abbrev pub decreases-loop-at : goal.decreases-loop-at
decreases-loop-at l = length l.row - l.at.index

abbrev pub invariant-loop-at : goal.invariant-loop-at
invariant-loop-at l = record {
  found : first_at (holds_byte l.byte) (l.fn.over.number + 1) (saturated (l.fn.over.offset + length l.fn.over.node.now.head.text)) (preorder (forest l.row)) ≡ first_at (holds_byte l.byte) l.at.number l.at.offset (preorder (forest (drop l.at.index l.row)));
  passed : IsPassed l.row (l.fn.over.number + 1) (saturated (l.fn.over.offset + length l.fn.over.node.now.head.text)) l.at.index l.at.number l.at.offset;
}
