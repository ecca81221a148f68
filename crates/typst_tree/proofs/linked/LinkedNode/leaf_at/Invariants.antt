use Rattle.typst_tree.proofs.Cited.{◌≡◌, nodes, places, first_at, holds_byte}
use Rattle.typst_tree.proofs.linked.LinkedNode.leaf_at.Given as goal

abbrev pub decreases-loop-kid : goal.decreases-loop-kid
decreases-loop-kid l = nodes l.over.node.now

abbrev pub invariant-loop-kid : goal.invariant-loop-kid
invariant-loop-kid l = record {
  root : l.over.root.now ≡ l.self.root.now;
  found : first_at (holds_byte l.byte) l.self.number l.self.offset (places l.self.node.now) ≡ first_at (holds_byte l.byte) l.over.number l.over.offset (places l.over.node.now);
}
