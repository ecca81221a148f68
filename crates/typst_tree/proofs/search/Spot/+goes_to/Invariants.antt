use Rattle.typst_tree.proofs.Cited.{◌≡◌, ◌+◌, ◌-◌, length, drop, forest, nodes, places, preorder, saturated, IsPassed, first_at, wanted}
use Rattle.typst_tree.proofs.search.Spot.+goes_to.Given as goal

abbrev pub decreases-goes_to : goal.decreases-goes_to
decreases-goes_to l = nodes l.self.now.node.now

abbrev pub decreases-loop-at : goal.decreases-loop-at
decreases-loop-at l = length l.row - l.at.index

abbrev pub invariant-loop-at : goal.invariant-loop-at
invariant-loop-at l = record {
  found : first_at (wanted l.search) l.fn.self.number l.fn.self.offset (places l.fn.self.node.now) ≡ first_at (wanted l.search) l.at.number l.at.offset (preorder (forest (drop l.at.index l.row)));
  passed : IsPassed l.row (l.fn.self.number + 1) (saturated (l.fn.self.offset + length l.fn.self.node.now.head.text)) l.at.index l.at.number l.at.offset;
}
